-- What any number of bytes holds.
use Rattle.std.proofs.Common.{ℕ, zero, suc, ◌*◌, ◌^◌, ◌<◌, ◌≡◌, pow-suc, arith}

pub room : (n : ℕ) → 0 < 256 ^ n
room zero = omega arith
room (suc n) = let e : 256 ^ suc n ≡ 256 ^ n * 256 = pow-suc 256 n in omega (arith, room n)
