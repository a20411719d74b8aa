use Rattle.ble.proofs.Receiving.{read-14, read-3, read-sound, read-heard}
use Rattle.std.proofs.lemmas.Bool.{not_from_false, not_from_true}
use Rattle.ble.proofs.reading.read_fragment.Goals as goal

pub returns-then-not-is_size : goal.returns-then-not-is_size
returns-then-not-is_size c = search read-14

pub returns-then-not-is_sound : goal.returns-then-not-is_sound
returns-then-not-is_sound c = read-3 _ _ _ _ c.is_size.result c.is_size.ensures (not_from_true _ c.if-not-is_size.false) c.is_sound.result c.is_sound.ensures _ (not_from_false _ c.if-not-is_sound.true) c.left-then-not-is_sound.ensures

pub hear-requires : goal.hear-requires
hear-requires c =
    let a = c.args in
    read-sound a.collection a.size a.fragment.now a.buffer.now c.is_size.result c.is_size.ensures (not_from_true _ c.if-not-is_size.false) c.is_sound.result c.is_sound.ensures (not_from_true _ c.if-not-is_sound.false)

pub returns : goal.returns
returns c = search read-heard
