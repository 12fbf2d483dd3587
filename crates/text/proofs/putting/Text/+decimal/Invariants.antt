use Rattle.text.proofs.putting.Text.+decimal.Given as goal

-- the digits before the last are those of n / 10
abbrev pub decreases-decimal : goal.decreases-decimal
decreases-decimal l = l.n
