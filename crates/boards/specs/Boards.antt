-- Request 11: a board, and what is in range.
use Rattle.std.specs.Prelude.{List, Bool, ◌&&◌, ℕ, leb, eqb, length, get_or}
use Rattle.numbers.specs.Tests.{each_below}

-- the albums' numbers are 0, …, albums - 1. Of each its frames, and the turn after which it is due. A turn is so many
-- frames long
pub record Board : Type 0 where
  pub albums : ℕ
  pub frames : ℕ → ℕ
  pub due : ℕ → ℕ
  pub turn : ℕ

-- of lists with a place for each album
abbrev pub board : List ℕ → List ℕ → ℕ → Board
board frames dues turn = record { albums = length frames; frames = λ a. get_or frames a 0; due = λ a. get_or dues a 0; turn = turn }

unfoldable pub within : ℕ → ℕ → ℕ → Bool
within least most n = leb least n && leb n most

-- 1 to 8 albums of 1 to 540,000 frames, due after turn 0 to 1,000,000, and turns of 1 to 540,000 frames
unfoldable pub in_range : Board → Bool
in_range s =
    within 1 8 s.albums
    && (each_below (λ a. within 1 540000 (s.frames a) && within 0 1000000 (s.due a)) s.albums && within 1 540000 s.turn)

-- every number is in its range, and each list has a place for each album
unfoldable pub fitting : List ℕ → List ℕ → ℕ → ℕ → ℕ → Bool
fitting frames dues turn finishes late =
    eqb (length dues) (length frames) && (in_range (board frames dues turn) && (eqb finishes (length frames) && eqb late (length frames)))
