-- Lengths up to 2^64 - 1.
use Rattle.std.specs.Prelude.{◌≡◌, ℕ, ◌+◌, ◌-◌, ◌^◌, List, [], ◌++◌, length, min, max}
use Rattle.std.proofs.Common.{ap, arith, length-append}
use Rattle.save_sink.specs.declared.length.Length.{Length}

-- the length after these bytes: it stays at 2^64 - 1, and no length falls
abbrev pub longer : Length → List ℕ → Length
longer s bytes = record { len = max s.len (min (s.len + length bytes) (2 ^ 64 - 1)) }

capped-joined : (n a b ab m : ℕ) → ab ≡ a + b → max (max n (min (n + a) m)) (min (max n (min (n + a) m) + b) m) ≡ max n (min (n + ab) m)
capped-joined n a b ab m e = omega arith

capped-kept : (n m : ℕ) → max n (min (n + 0) m) ≡ n
capped-kept n m = omega arith

-- two pieces are as both in one
pub longer-joined : (s : Length) (a b : List ℕ) → longer (longer s a) b ≡ longer s (a ++ b)
longer-joined s a b =
    ap (λ (n : ℕ). record { len = n }) (capped-joined s.len (length a) (length b) (length (a ++ b)) (2 ^ 64 - 1) (length-append a b))

-- and an empty piece is as none
pub longer-kept : (s : Length) → longer s [] ≡ s
longer-kept s = ap (λ (n : ℕ). record { len = n }) (capped-kept s.len (2 ^ 64 - 1))
