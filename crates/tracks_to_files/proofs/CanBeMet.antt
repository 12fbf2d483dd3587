-- There are such calls, and such files.
use Rattle.tracks_to_files.specs.CanBeMet.{PlanCanBeMet}
use Rattle.tracks_to_files.proofs.Made.{all_called}
use Rattle.tracks_to_files.proofs.Meeting.{plan_meets}

pub plan_met : PlanCanBeMet
plan_met files hs s jobs g taken some most =
    let made = all_called files hs s g taken jobs some most in
    record { parts = made.parts; called = made.are; files_met = plan_meets files hs s jobs made.parts g taken some most made.are }
