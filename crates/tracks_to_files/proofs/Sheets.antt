-- Widths of an album's sheet.
use Rattle.sheet_laws.proofs.Runs.{never_too_wide}
use Rattle.tracks.specs.Tracks.{heads, tracks_channels, tracks_run, tracks_converter}
use Rattle.tracks.proofs.Opened.{is_opened, opens}
use Rattle.tracks.proofs.TracksToFiles.{fits_album}
use Rattle.tracks_to_files.specs.Sheets.{SheetNotTooWide}

pub sheet_not_too_wide : SheetNotTooWide
sheet_not_too_wide ts s held taken n room =
    never_too_wide (tracks_converter s (heads ts)) (tracks_run (tracks_channels (heads ts)) ts) held (record { opens = opens (heads ts) s (is_opened (heads ts) s taken) })
    (record { fits = fits_album ts s taken }) n room
