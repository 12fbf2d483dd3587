-- A board worked by hand: turns of 2 frames, and albums of 5, 3 and 4 frames, due after turns 2, 1 and 2.
use Rattle.std.proofs.Common.{◌≡◌, refl, [], ◌∷◌, true, false, pos, negsuc}
use Rattle.numbers.specs.Lists.{total, tabulate}
use Rattle.numbers.specs.Tests.{each_below}
use Rattle.boards.specs.Boards.{Board, board, within, in_range}
use Rattle.finishes.specs.Turns.{after_turn, finish, finish_in, lateness_in, next, by_due, simulated, greatest, greatest_lateness}

abbrev three : Board
three = board (5 ∷ 3 ∷ 4 ∷ []) (2 ∷ 1 ∷ 2 ∷ []) 2

three_taken : in_range three ≡ true
unfolding in_range within each_below
three_taken = refl

three_turns : simulated three ≡ 1 ∷ 1 ∷ 0 ∷ 0 ∷ 0 ∷ 2 ∷ 2 ∷ []
unfolding simulated by_due next after_turn total
three_turns = refl

three_finish : tabulate (finish_in three (simulated three)) 0 3 ≡ 5 ∷ 2 ∷ 7 ∷ []
unfolding simulated by_due next after_turn total finish finish_in tabulate
three_finish = refl

three_late : tabulate (lateness_in three (simulated three)) 0 3 ≡ pos 3 ∷ pos 1 ∷ pos 5 ∷ []
unfolding simulated by_due next after_turn total finish finish_in lateness_in tabulate
three_late = refl

-- in turn, one after the other, the greatest lateness is the same here; with the longest first it is greater
round_robin : greatest_lateness three (0 ∷ 1 ∷ 2 ∷ 0 ∷ 1 ∷ 2 ∷ 0 ∷ []) ≡ pos 5
unfolding after_turn finish finish_in lateness_in greatest greatest_lateness
round_robin = refl

longest_first : greatest_lateness three (0 ∷ 0 ∷ 0 ∷ 2 ∷ 2 ∷ 1 ∷ 1 ∷ []) ≡ pos 6
unfolding after_turn finish finish_in lateness_in greatest greatest_lateness
longest_first = refl

-- an album that finishes early has a lateness below 0
early : lateness_in (board (3 ∷ []) (10 ∷ []) 2) (0 ∷ 0 ∷ []) 0 ≡ negsuc 7
unfolding after_turn finish finish_in lateness_in
early = refl

-- numbers outside the ranges
no_album : in_range (board [] [] 1) ≡ false
unfolding in_range within each_below
no_album = refl

late_due : in_range (board (1 ∷ []) (1000001 ∷ []) 1) ≡ false
unfolding in_range within each_below
late_due = refl
