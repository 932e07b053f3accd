-- The lines of the statuses.
use Rattle.std.proofs.Common.{◌≡◌, ℕ, ◌+◌, ◌<◌, ◌∷◌, ◌++◌, codes, sym, ap, lit<}
use Rattle.std.proofs.lemmas.Fmt.{decimal_digit}
use Rattle.ws_top.specs.Texts.{status_line}

line_of : (s : ℕ) → s < 10 → codes "status " ++ (48 + s) ∷ codes "\n" ≡ status_line s
line_of s l = ap (λ ds. codes "status " ++ ds ++ codes "\n") (sym (decimal_digit s l))

pub line_0 : codes "status 0\n" ≡ status_line 0
line_0 = line_of 0 (lit< tt)

pub line_2 : codes "status 2\n" ≡ status_line 2
line_2 = line_of 2 (lit< tt)

pub line_3 : codes "status 3\n" ≡ status_line 3
line_3 = line_of 3 (lit< tt)

pub line_5 : codes "status 5\n" ≡ status_line 5
line_5 = line_of 5 (lit< tt)

pub line_8 : codes "status 8\n" ≡ status_line 8
line_8 = line_of 8 (lit< tt)

pub line_9 : codes "status 9\n" ≡ status_line 9
line_9 = line_of 9 (lit< tt)
