use Rattle.c_calls.proofs.Done.{rack_made, desk_made, wav_made}
use Rattle.c_calls.proofs.conversions.counted.Goals as goal

pub returns-in-Rack : goal.returns-in-Rack
returns-in-Rack c = rw c.in-Rack.is (rack_made c.convert.ensures)

pub returns-in-Desk : goal.returns-in-Desk
returns-in-Desk c = rw c.in-Desk.is (desk_made c.convert_desk.ensures)

pub returns-in-Wav : goal.returns-in-Wav
returns-in-Wav c = rw c.in-Wav.is (wav_made c.convert-in-Wav.ensures)
