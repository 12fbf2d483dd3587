-- Parts of an album: whole pieces.
use Rattle.std.specs.Prelude.{◌≡◌, Option, Some, None, unwrap_or, cond, ◌&&◌, ℕ, ◌+◌, ◌*◌, ◌/◌, ◌<◌, ltb, leb}
use Rattle.reference.specs.Refusals.{most}
use Rattle.reference.specs.declared.Limit.TheVariants as limit
use Rattle.tracks_open.specs.Open.{piece_total}
use Rattle.album_parts.specs.declared.Part.{Part}

-- part j of `jobs` of n pieces: as many pieces as the others, or one more
unfoldable pub part_first : ℕ → ℕ → ℕ → ℕ
part_first n jobs j = n * j / jobs

unfoldable pub part_at : ℕ → ℕ → ℕ → Option Part
part_at f jobs j =
    cond (leb f (most limit.Rack) && (leb jobs 64 && ltb j jobs))
    (Some (record { first = part_first (piece_total f) jobs j; end = part_first (piece_total f) jobs (j + 1) }))
    None

abbrev pub no_part : Part
no_part = record { first = 0; end = 0 }

-- with no pieces for no part
unfoldable pub job_part : ℕ → ℕ → ℕ → Part
job_part f jobs j = unwrap_or (part_at f jobs j) no_part

-- the parts of an album of f frames are all its pieces in turn. Proved in proofs/Parts, `parts_cut`
pub record PartsCut (f : ℕ) : Type 0 where
  pub begin : (jobs : ℕ) → 0 < jobs → part_first (piece_total f) jobs 0 ≡ 0
  pub end : (jobs : ℕ) → 0 < jobs → part_first (piece_total f) jobs jobs ≡ piece_total f
