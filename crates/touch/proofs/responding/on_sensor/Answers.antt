use Rattle.touch.proofs.Sending.{sensor-touched, sensor-timeout, sensor-failed}
use Rattle.touch.proofs.responding.on_sensor.Goals as goal

pub returns-in-Touched : goal.returns-in-Touched
returns-in-Touched c = search sensor-touched

pub returns-in-Timeout : goal.returns-in-Timeout
returns-in-Timeout c = search sensor-timeout

pub returns-in-Failed : goal.returns-in-Failed
returns-in-Failed c = search sensor-failed
