-- A byte turned twice is the byte, by a test over all 256.
use Rattle.std.proofs.Common.{◌≡◌, refl, Bool, true, false, cond, ◌&&◌, ℕ, ◌<◌, T, eqb, ltb, eqb→eq, ltb→lt}
use Rattle.numbers.specs.Lists.{total}
use Rattle.numbers.specs.Tests.{each_below}
use Rattle.numbers.proofs.Tests.{each_below_at}
use Rattle.std.specs.Int.{w8, reverse_bits, reverse_bits_onto}
use Rattle.dsf.specs.Dsf.{turned, our_byte}
use Rattle.dsf.specs.inner.Orders.{bit_order, ordered}
use Rattle.dsf.specs.declared.BitOrder.TheVariants.{LowestFirst, HighestFirst}
use Rattle.dsf.proofs.Alike.{left, right}

test : ℕ → Bool
test x = eqb (turned (turned x)) x && ltb (turned x) 256

all_turned : T (each_below test 256)
unfolding each_below test turned total
all_turned = tt

pub turned_twice : (x : ℕ) → x < 256 → turned (turned x) ≡ x
unfolding test
turned_twice x h = eqb→eq _ _ (left (eqb (turned (turned x)) x) (ltb (turned x) 256) (each_below_at test 256 x all_turned h))

pub turned_byte : (x : ℕ) → x < 256 → turned x < 256
unfolding test
turned_byte x h = ltb→lt _ _ (right (eqb (turned (turned x)) x) (ltb (turned x) 256) (each_below_at test 256 x all_turned h))

-- as the machine turns it
same : ℕ → Bool
same x = eqb (reverse_bits w8 x) (turned x)

all_same : T (each_below same 256)
unfolding each_below same turned total reverse_bits_onto
all_same = tt

pub reversed : (x : ℕ) → x < 256 → reverse_bits w8 x ≡ turned x
unfolding same
reversed x h = eqb→eq _ _ (each_below_at same 256 x all_same h)

-- the order that a header tells
pub ordered_is : (bits x : ℕ) → ordered (bit_order bits) x ≡ our_byte bits x
unfolding our_byte
ordered_is bits x = go (eqb bits 1)
  where
    go : (b : Bool) → ordered (cond b LowestFirst HighestFirst) x ≡ cond b (turned x) x
    go true = refl
    go false = refl
