-- The size of the data.
use Rattle.std.proofs.Common.{ℕ, ◌+◌, ◌*◌, ◌/◌, ◌^◌, ◌≤◌, ◌<◌, mul-le-mul, arith}

pub product_fits : (samples channels : ℕ) → samples < 2 ^ 64 → channels ≤ 6 → (samples / 8 + 4095) / 4096 * 4096 * channels ≤ 6 * (2 ^ 61 + 4095)
product_fits samples channels s c =
    let e : (samples / 8 + 4095) / 4096 * 4096 ≤ 2 ^ 61 + 4095 = omega arith in
    omega (arith, mul-le-mul e c)
