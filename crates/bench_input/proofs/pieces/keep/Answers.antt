use Rattle.bench_input.proofs.Kept.{keeps}
use Rattle.bench_input.proofs.pieces.keep.Goals as goal

pub returns-in-Waiting : goal.returns-in-Waiting
returns-in-Waiting c = search keeps

pub returns-in-Whole : goal.returns-in-Whole
returns-in-Whole c = search keeps

pub returns-in-Refused : goal.returns-in-Refused
returns-in-Refused c = search keeps
