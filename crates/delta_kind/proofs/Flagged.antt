-- Each flag is set exactly where it was added.
use Rattle.std.proofs.Common.{◌≡◌, ◌≤◌, ◌<◌, ℕ, ◌+◌, ◌*◌, ◌/◌, ◌%◌, Bool, true, false, not, List, [], ◌∷◌, map, refl, ap, ◌∙◌, arith}
use Rattle.std.specs.Prelude.{is_some, bit_and, ◌==◌}
use Rattle.std.specs.FinMap.{get}
use Rattle.std.proofs.lemmas.Nat.Bits.{and_high}
use Rattle.res_path.specs.Paths.{Names}
use Rattle.ws_elem.specs.Trees.{Tree}
use Rattle.delta_kind.specs.Flags.{is_set, flag_if, has_content, has_open, has_type, has_sync, has_markers, has_replaced, has_description, has_derived_changed}
use Rattle.delta_kind.specs.Moves.{moved}
use Rattle.delta_kind.specs.Deltas.{node_at, changed, with_above, delta, TellsPath, TellsPaths}

-- 1 where it holds
abbrev bit : Bool → ℕ
bit true = 1
bit false = 0

at_most_one : (b : Bool) → bit b ≤ 1
at_most_one true = omega arith
at_most_one false = omega arith

flag_times : (flag : ℕ) (b : Bool) → flag_if flag b ≡ flag * bit b
flag_times flag true = omega arith
flag_times flag false = omega arith

once : (n : ℕ) → 1 * n ≡ n
once n = omega arith

none : (n : ℕ) → 0 * n ≡ 0
none n = omega arith

-- a flag is set where its digit is 1
set_by_digit : (flag flags : ℕ) (b : Bool) → bit_and flags flag ≡ flags / flag % 2 * flag → flags / flag % 2 ≡ bit b → (flag == 0) ≡ false → is_set flag flags ≡ b
set_by_digit flag flags true h digit some = ap (λ n. not (n == 0)) (h ∙ ap (λ d. d * flag) digit ∙ once flag) ∙ ap not some
set_by_digit flag flags false h digit some = ap (λ n. not (n == 0)) (h ∙ ap (λ d. d * flag) digit ∙ none flag)

-- the digit between what is lower and what is higher
digit_content : (low n high : ℕ) → low < 0x100 → n ≤ 1 → (low + 0x100 * n + 0x200 * high) / 0x100 % 2 ≡ n
digit_content low n high l m = omega arith

digit_opened : (low n high : ℕ) → low < 0x4000 → n ≤ 1 → (low + 0x4000 * n + 0x8000 * high) / 0x4000 % 2 ≡ n
digit_opened low n high l m = omega arith

digit_other_kind : (low n high : ℕ) → low < 0x8000 → n ≤ 1 → (low + 0x8000 * n + 0x10000 * high) / 0x8000 % 2 ≡ n
digit_other_kind low n high l m = omega arith

digit_syncs : (low n high : ℕ) → low < 0x10000 → n ≤ 1 → (low + 0x10000 * n + 0x20000 * high) / 0x10000 % 2 ≡ n
digit_syncs low n high l m = omega arith

digit_marks : (low n high : ℕ) → low < 0x20000 → n ≤ 1 → (low + 0x20000 * n + 0x40000 * high) / 0x20000 % 2 ≡ n
digit_marks low n high l m = omega arith

digit_replaced : (low n high : ℕ) → low < 0x40000 → n ≤ 1 → (low + 0x40000 * n + 0x80000 * high) / 0x40000 % 2 ≡ n
digit_replaced low n high l m = omega arith

digit_description : (low n high : ℕ) → low < 0x80000 → n ≤ 1 → (low + 0x80000 * n + 0x100000 * high) / 0x80000 % 2 ≡ n
digit_description low n high l m = omega arith

digit_derived : (low n high : ℕ) → low < 0x400000 → n ≤ 1 → (low + 0x400000 * n + 0x800000 * high) / 0x400000 % 2 ≡ n
digit_derived low n high l m = omega arith

digit_moved_from : (low n high : ℕ) → low < 0x1000 → n ≤ 1 → (low + 0x1000 * n + 0x2000 * high) / 0x1000 % 2 ≡ n
digit_moved_from low n high l m = omega arith

digit_moved_to : (low n high : ℕ) → low < 0x2000 → n ≤ 1 → (low + 0x2000 * n + 0x4000 * high) / 0x2000 % 2 ≡ n
digit_moved_to low n high l m = omega arith

-- a sum of flags, each taken once at most
module _ (c o t y m r d v f g : ℕ) (c1 : c ≤ 1) (o1 : o ≤ 1) (t1 : t ≤ 1) (y1 : y ≤ 1) (m1 : m ≤ 1) (r1 : r ≤ 1) (d1 : d ≤ 1) (v1 : v ≤ 1) (f1 : f ≤ 1) (g1 : g ≤ 1) where
  taken_content : (0x100 * c + 0x4000 * o + 0x8000 * t + 0x10000 * y + 0x20000 * m + 0x40000 * r + 0x80000 * d + 0x400000 * v + (0x1000 * f + 0x2000 * g)) / 0x100 % 2 ≡ c
  taken_content =
      let apart : 0x100 * c + 0x4000 * o + 0x8000 * t + 0x10000 * y + 0x20000 * m + 0x40000 * r + 0x80000 * d + 0x400000 * v + (0x1000 * f + 0x2000 * g) ≡ 0 + 0x100 * c + 0x200 * (0x20 * o + 0x40 * t + 0x80 * y + 0x100 * m + 0x200 * r + 0x400 * d + 0x2000 * v + 0x8 * f + 0x10 * g) = omega arith in
      let lower : 0 < 0x100 = omega arith in
      ap (λ n. n / 0x100 % 2) apart ∙ digit_content 0 c (0x20 * o + 0x40 * t + 0x80 * y + 0x100 * m + 0x200 * r + 0x400 * d + 0x2000 * v + 0x8 * f + 0x10 * g) lower c1

  taken_opened : (0x100 * c + 0x4000 * o + 0x8000 * t + 0x10000 * y + 0x20000 * m + 0x40000 * r + 0x80000 * d + 0x400000 * v + (0x1000 * f + 0x2000 * g)) / 0x4000 % 2 ≡ o
  taken_opened =
      let apart : 0x100 * c + 0x4000 * o + 0x8000 * t + 0x10000 * y + 0x20000 * m + 0x40000 * r + 0x80000 * d + 0x400000 * v + (0x1000 * f + 0x2000 * g) ≡ (0x100 * c + 0x1000 * f + 0x2000 * g) + 0x4000 * o + 0x8000 * (t + 0x2 * y + 0x4 * m + 0x8 * r + 0x10 * d + 0x80 * v) = omega arith in
      let lower : 0x100 * c + 0x1000 * f + 0x2000 * g < 0x4000 = omega arith in
      ap (λ n. n / 0x4000 % 2) apart ∙ digit_opened (0x100 * c + 0x1000 * f + 0x2000 * g) o (t + 0x2 * y + 0x4 * m + 0x8 * r + 0x10 * d + 0x80 * v) lower o1

  taken_other_kind : (0x100 * c + 0x4000 * o + 0x8000 * t + 0x10000 * y + 0x20000 * m + 0x40000 * r + 0x80000 * d + 0x400000 * v + (0x1000 * f + 0x2000 * g)) / 0x8000 % 2 ≡ t
  taken_other_kind =
      let apart : 0x100 * c + 0x4000 * o + 0x8000 * t + 0x10000 * y + 0x20000 * m + 0x40000 * r + 0x80000 * d + 0x400000 * v + (0x1000 * f + 0x2000 * g) ≡ (0x100 * c + 0x4000 * o + 0x1000 * f + 0x2000 * g) + 0x8000 * t + 0x10000 * (y + 0x2 * m + 0x4 * r + 0x8 * d + 0x40 * v) = omega arith in
      let lower : 0x100 * c + 0x4000 * o + 0x1000 * f + 0x2000 * g < 0x8000 = omega arith in
      ap (λ n. n / 0x8000 % 2) apart ∙ digit_other_kind (0x100 * c + 0x4000 * o + 0x1000 * f + 0x2000 * g) t (y + 0x2 * m + 0x4 * r + 0x8 * d + 0x40 * v) lower t1

  taken_syncs : (0x100 * c + 0x4000 * o + 0x8000 * t + 0x10000 * y + 0x20000 * m + 0x40000 * r + 0x80000 * d + 0x400000 * v + (0x1000 * f + 0x2000 * g)) / 0x10000 % 2 ≡ y
  taken_syncs =
      let apart : 0x100 * c + 0x4000 * o + 0x8000 * t + 0x10000 * y + 0x20000 * m + 0x40000 * r + 0x80000 * d + 0x400000 * v + (0x1000 * f + 0x2000 * g) ≡ (0x100 * c + 0x4000 * o + 0x8000 * t + 0x1000 * f + 0x2000 * g) + 0x10000 * y + 0x20000 * (m + 0x2 * r + 0x4 * d + 0x20 * v) = omega arith in
      let lower : 0x100 * c + 0x4000 * o + 0x8000 * t + 0x1000 * f + 0x2000 * g < 0x10000 = omega arith in
      ap (λ n. n / 0x10000 % 2) apart ∙ digit_syncs (0x100 * c + 0x4000 * o + 0x8000 * t + 0x1000 * f + 0x2000 * g) y (m + 0x2 * r + 0x4 * d + 0x20 * v) lower y1

  taken_marks : (0x100 * c + 0x4000 * o + 0x8000 * t + 0x10000 * y + 0x20000 * m + 0x40000 * r + 0x80000 * d + 0x400000 * v + (0x1000 * f + 0x2000 * g)) / 0x20000 % 2 ≡ m
  taken_marks =
      let apart : 0x100 * c + 0x4000 * o + 0x8000 * t + 0x10000 * y + 0x20000 * m + 0x40000 * r + 0x80000 * d + 0x400000 * v + (0x1000 * f + 0x2000 * g) ≡ (0x100 * c + 0x4000 * o + 0x8000 * t + 0x10000 * y + 0x1000 * f + 0x2000 * g) + 0x20000 * m + 0x40000 * (r + 0x2 * d + 0x10 * v) = omega arith in
      let lower : 0x100 * c + 0x4000 * o + 0x8000 * t + 0x10000 * y + 0x1000 * f + 0x2000 * g < 0x20000 = omega arith in
      ap (λ n. n / 0x20000 % 2) apart ∙ digit_marks (0x100 * c + 0x4000 * o + 0x8000 * t + 0x10000 * y + 0x1000 * f + 0x2000 * g) m (r + 0x2 * d + 0x10 * v) lower m1

  taken_replaced : (0x100 * c + 0x4000 * o + 0x8000 * t + 0x10000 * y + 0x20000 * m + 0x40000 * r + 0x80000 * d + 0x400000 * v + (0x1000 * f + 0x2000 * g)) / 0x40000 % 2 ≡ r
  taken_replaced =
      let apart : 0x100 * c + 0x4000 * o + 0x8000 * t + 0x10000 * y + 0x20000 * m + 0x40000 * r + 0x80000 * d + 0x400000 * v + (0x1000 * f + 0x2000 * g) ≡ (0x100 * c + 0x4000 * o + 0x8000 * t + 0x10000 * y + 0x20000 * m + 0x1000 * f + 0x2000 * g) + 0x40000 * r + 0x80000 * (d + 0x8 * v) = omega arith in
      let lower : 0x100 * c + 0x4000 * o + 0x8000 * t + 0x10000 * y + 0x20000 * m + 0x1000 * f + 0x2000 * g < 0x40000 = omega arith in
      ap (λ n. n / 0x40000 % 2) apart ∙ digit_replaced (0x100 * c + 0x4000 * o + 0x8000 * t + 0x10000 * y + 0x20000 * m + 0x1000 * f + 0x2000 * g) r (d + 0x8 * v) lower r1

  taken_description : (0x100 * c + 0x4000 * o + 0x8000 * t + 0x10000 * y + 0x20000 * m + 0x40000 * r + 0x80000 * d + 0x400000 * v + (0x1000 * f + 0x2000 * g)) / 0x80000 % 2 ≡ d
  taken_description =
      let apart : 0x100 * c + 0x4000 * o + 0x8000 * t + 0x10000 * y + 0x20000 * m + 0x40000 * r + 0x80000 * d + 0x400000 * v + (0x1000 * f + 0x2000 * g) ≡ (0x100 * c + 0x4000 * o + 0x8000 * t + 0x10000 * y + 0x20000 * m + 0x40000 * r + 0x1000 * f + 0x2000 * g) + 0x80000 * d + 0x100000 * (0x4 * v) = omega arith in
      let lower : 0x100 * c + 0x4000 * o + 0x8000 * t + 0x10000 * y + 0x20000 * m + 0x40000 * r + 0x1000 * f + 0x2000 * g < 0x80000 = omega arith in
      ap (λ n. n / 0x80000 % 2) apart ∙ digit_description (0x100 * c + 0x4000 * o + 0x8000 * t + 0x10000 * y + 0x20000 * m + 0x40000 * r + 0x1000 * f + 0x2000 * g) d (0x4 * v) lower d1

  taken_derived : (0x100 * c + 0x4000 * o + 0x8000 * t + 0x10000 * y + 0x20000 * m + 0x40000 * r + 0x80000 * d + 0x400000 * v + (0x1000 * f + 0x2000 * g)) / 0x400000 % 2 ≡ v
  taken_derived =
      let apart : 0x100 * c + 0x4000 * o + 0x8000 * t + 0x10000 * y + 0x20000 * m + 0x40000 * r + 0x80000 * d + 0x400000 * v + (0x1000 * f + 0x2000 * g) ≡ (0x100 * c + 0x4000 * o + 0x8000 * t + 0x10000 * y + 0x20000 * m + 0x40000 * r + 0x80000 * d + 0x1000 * f + 0x2000 * g) + 0x400000 * v + 0x800000 * 0 = omega arith in
      let lower : 0x100 * c + 0x4000 * o + 0x8000 * t + 0x10000 * y + 0x20000 * m + 0x40000 * r + 0x80000 * d + 0x1000 * f + 0x2000 * g < 0x400000 = omega arith in
      ap (λ n. n / 0x400000 % 2) apart ∙ digit_derived (0x100 * c + 0x4000 * o + 0x8000 * t + 0x10000 * y + 0x20000 * m + 0x40000 * r + 0x80000 * d + 0x1000 * f + 0x2000 * g) v 0 lower v1

  taken_moved_from : (0x100 * c + 0x4000 * o + 0x8000 * t + 0x10000 * y + 0x20000 * m + 0x40000 * r + 0x80000 * d + 0x400000 * v + (0x1000 * f + 0x2000 * g)) / 0x1000 % 2 ≡ f
  taken_moved_from =
      let apart : 0x100 * c + 0x4000 * o + 0x8000 * t + 0x10000 * y + 0x20000 * m + 0x40000 * r + 0x80000 * d + 0x400000 * v + (0x1000 * f + 0x2000 * g) ≡ (0x100 * c) + 0x1000 * f + 0x2000 * (0x2 * o + 0x4 * t + 0x8 * y + 0x10 * m + 0x20 * r + 0x40 * d + 0x200 * v + g) = omega arith in
      let lower : 0x100 * c < 0x1000 = omega arith in
      ap (λ n. n / 0x1000 % 2) apart ∙ digit_moved_from (0x100 * c) f (0x2 * o + 0x4 * t + 0x8 * y + 0x10 * m + 0x20 * r + 0x40 * d + 0x200 * v + g) lower f1

  taken_moved_to : (0x100 * c + 0x4000 * o + 0x8000 * t + 0x10000 * y + 0x20000 * m + 0x40000 * r + 0x80000 * d + 0x400000 * v + (0x1000 * f + 0x2000 * g)) / 0x2000 % 2 ≡ g
  taken_moved_to =
      let apart : 0x100 * c + 0x4000 * o + 0x8000 * t + 0x10000 * y + 0x20000 * m + 0x40000 * r + 0x80000 * d + 0x400000 * v + (0x1000 * f + 0x2000 * g) ≡ (0x100 * c + 0x1000 * f) + 0x2000 * g + 0x4000 * (o + 0x2 * t + 0x4 * y + 0x8 * m + 0x10 * r + 0x20 * d + 0x100 * v) = omega arith in
      let lower : 0x100 * c + 0x1000 * f < 0x2000 = omega arith in
      ap (λ n. n / 0x2000 % 2) apart ∙ digit_moved_to (0x100 * c + 0x1000 * f) g (o + 0x2 * t + 0x4 * y + 0x8 * m + 0x10 * r + 0x20 * d + 0x100 * v) lower g1

-- the flags of what holds
module _ (c o t y m r d v f g : Bool) where
  abbrev flags : ℕ
  flags = flag_if 0x100 c + flag_if 0x4000 o + flag_if 0x8000 t + flag_if 0x10000 y + flag_if 0x20000 m + flag_if 0x40000 r + flag_if 0x80000 d + flag_if 0x400000 v + (flag_if 0x1000 f + flag_if 0x2000 g)

  flags_sum : flags ≡ 0x100 * bit c + 0x4000 * bit o + 0x8000 * bit t + 0x10000 * bit y + 0x20000 * bit m + 0x40000 * bit r + 0x80000 * bit d + 0x400000 * bit v + (0x1000 * bit f + 0x2000 * bit g)
  flags_sum = λ i. flag_times 0x100 c i + flag_times 0x4000 o i + flag_times 0x8000 t i + flag_times 0x10000 y i + flag_times 0x20000 m i + flag_times 0x40000 r i + flag_times 0x80000 d i + flag_times 0x400000 v i + (flag_times 0x1000 f i + flag_times 0x2000 g i)

  set_content : is_set 0x100 flags ≡ c
  set_content = set_by_digit 0x100 flags c (and_high flags 1 8) (ap (λ n. n / 0x100 % 2) flags_sum ∙ taken_content (bit c) (bit o) (bit t) (bit y) (bit m) (bit r) (bit d) (bit v) (bit f) (bit g) (at_most_one c) (at_most_one o) (at_most_one t) (at_most_one y) (at_most_one m) (at_most_one r) (at_most_one d) (at_most_one v) (at_most_one f) (at_most_one g)) refl

  set_opened : is_set 0x4000 flags ≡ o
  set_opened = set_by_digit 0x4000 flags o (and_high flags 1 14) (ap (λ n. n / 0x4000 % 2) flags_sum ∙ taken_opened (bit c) (bit o) (bit t) (bit y) (bit m) (bit r) (bit d) (bit v) (bit f) (bit g) (at_most_one c) (at_most_one o) (at_most_one t) (at_most_one y) (at_most_one m) (at_most_one r) (at_most_one d) (at_most_one v) (at_most_one f) (at_most_one g)) refl

  set_other_kind : is_set 0x8000 flags ≡ t
  set_other_kind = set_by_digit 0x8000 flags t (and_high flags 1 15) (ap (λ n. n / 0x8000 % 2) flags_sum ∙ taken_other_kind (bit c) (bit o) (bit t) (bit y) (bit m) (bit r) (bit d) (bit v) (bit f) (bit g) (at_most_one c) (at_most_one o) (at_most_one t) (at_most_one y) (at_most_one m) (at_most_one r) (at_most_one d) (at_most_one v) (at_most_one f) (at_most_one g)) refl

  set_syncs : is_set 0x10000 flags ≡ y
  set_syncs = set_by_digit 0x10000 flags y (and_high flags 1 16) (ap (λ n. n / 0x10000 % 2) flags_sum ∙ taken_syncs (bit c) (bit o) (bit t) (bit y) (bit m) (bit r) (bit d) (bit v) (bit f) (bit g) (at_most_one c) (at_most_one o) (at_most_one t) (at_most_one y) (at_most_one m) (at_most_one r) (at_most_one d) (at_most_one v) (at_most_one f) (at_most_one g)) refl

  set_marks : is_set 0x20000 flags ≡ m
  set_marks = set_by_digit 0x20000 flags m (and_high flags 1 17) (ap (λ n. n / 0x20000 % 2) flags_sum ∙ taken_marks (bit c) (bit o) (bit t) (bit y) (bit m) (bit r) (bit d) (bit v) (bit f) (bit g) (at_most_one c) (at_most_one o) (at_most_one t) (at_most_one y) (at_most_one m) (at_most_one r) (at_most_one d) (at_most_one v) (at_most_one f) (at_most_one g)) refl

  set_replaced : is_set 0x40000 flags ≡ r
  set_replaced = set_by_digit 0x40000 flags r (and_high flags 1 18) (ap (λ n. n / 0x40000 % 2) flags_sum ∙ taken_replaced (bit c) (bit o) (bit t) (bit y) (bit m) (bit r) (bit d) (bit v) (bit f) (bit g) (at_most_one c) (at_most_one o) (at_most_one t) (at_most_one y) (at_most_one m) (at_most_one r) (at_most_one d) (at_most_one v) (at_most_one f) (at_most_one g)) refl

  set_description : is_set 0x80000 flags ≡ d
  set_description = set_by_digit 0x80000 flags d (and_high flags 1 19) (ap (λ n. n / 0x80000 % 2) flags_sum ∙ taken_description (bit c) (bit o) (bit t) (bit y) (bit m) (bit r) (bit d) (bit v) (bit f) (bit g) (at_most_one c) (at_most_one o) (at_most_one t) (at_most_one y) (at_most_one m) (at_most_one r) (at_most_one d) (at_most_one v) (at_most_one f) (at_most_one g)) refl

  set_derived : is_set 0x400000 flags ≡ v
  set_derived = set_by_digit 0x400000 flags v (and_high flags 1 22) (ap (λ n. n / 0x400000 % 2) flags_sum ∙ taken_derived (bit c) (bit o) (bit t) (bit y) (bit m) (bit r) (bit d) (bit v) (bit f) (bit g) (at_most_one c) (at_most_one o) (at_most_one t) (at_most_one y) (at_most_one m) (at_most_one r) (at_most_one d) (at_most_one v) (at_most_one f) (at_most_one g)) refl

  set_moved_from : is_set 0x1000 flags ≡ f
  set_moved_from = set_by_digit 0x1000 flags f (and_high flags 1 12) (ap (λ n. n / 0x1000 % 2) flags_sum ∙ taken_moved_from (bit c) (bit o) (bit t) (bit y) (bit m) (bit r) (bit d) (bit v) (bit f) (bit g) (at_most_one c) (at_most_one o) (at_most_one t) (at_most_one y) (at_most_one m) (at_most_one r) (at_most_one d) (at_most_one v) (at_most_one f) (at_most_one g)) refl

  set_moved_to : is_set 0x2000 flags ≡ g
  set_moved_to = set_by_digit 0x2000 flags g (and_high flags 1 13) (ap (λ n. n / 0x2000 % 2) flags_sum ∙ taken_moved_to (bit c) (bit o) (bit t) (bit y) (bit m) (bit r) (bit d) (bit v) (bit f) (bit g) (at_most_one c) (at_most_one o) (at_most_one t) (at_most_one y) (at_most_one m) (at_most_one r) (at_most_one d) (at_most_one v) (at_most_one f) (at_most_one g)) refl

-- each node tells its path
told : (a b : Tree) (p : Names) → TellsPath a b (node_at a b p)
told a b p = record {
  kind = refl;
  content = set_content (has_content (get a p) (get b p)) (has_open (get a p) (get b p)) (has_type (get a p) (get b p)) (has_sync (get a p) (get b p)) (has_markers (get a p) (get b p)) (has_replaced (get a p) (get b p)) (has_description (get a p) (get b p)) (has_derived_changed (get a p) (get b p)) (is_some (moved a b p)) (is_some (moved b a p));
  opened = set_opened (has_content (get a p) (get b p)) (has_open (get a p) (get b p)) (has_type (get a p) (get b p)) (has_sync (get a p) (get b p)) (has_markers (get a p) (get b p)) (has_replaced (get a p) (get b p)) (has_description (get a p) (get b p)) (has_derived_changed (get a p) (get b p)) (is_some (moved a b p)) (is_some (moved b a p));
  other_kind = set_other_kind (has_content (get a p) (get b p)) (has_open (get a p) (get b p)) (has_type (get a p) (get b p)) (has_sync (get a p) (get b p)) (has_markers (get a p) (get b p)) (has_replaced (get a p) (get b p)) (has_description (get a p) (get b p)) (has_derived_changed (get a p) (get b p)) (is_some (moved a b p)) (is_some (moved b a p));
  syncs = set_syncs (has_content (get a p) (get b p)) (has_open (get a p) (get b p)) (has_type (get a p) (get b p)) (has_sync (get a p) (get b p)) (has_markers (get a p) (get b p)) (has_replaced (get a p) (get b p)) (has_description (get a p) (get b p)) (has_derived_changed (get a p) (get b p)) (is_some (moved a b p)) (is_some (moved b a p));
  marks = set_marks (has_content (get a p) (get b p)) (has_open (get a p) (get b p)) (has_type (get a p) (get b p)) (has_sync (get a p) (get b p)) (has_markers (get a p) (get b p)) (has_replaced (get a p) (get b p)) (has_description (get a p) (get b p)) (has_derived_changed (get a p) (get b p)) (is_some (moved a b p)) (is_some (moved b a p));
  replaced = set_replaced (has_content (get a p) (get b p)) (has_open (get a p) (get b p)) (has_type (get a p) (get b p)) (has_sync (get a p) (get b p)) (has_markers (get a p) (get b p)) (has_replaced (get a p) (get b p)) (has_description (get a p) (get b p)) (has_derived_changed (get a p) (get b p)) (is_some (moved a b p)) (is_some (moved b a p));
  description = set_description (has_content (get a p) (get b p)) (has_open (get a p) (get b p)) (has_type (get a p) (get b p)) (has_sync (get a p) (get b p)) (has_markers (get a p) (get b p)) (has_replaced (get a p) (get b p)) (has_description (get a p) (get b p)) (has_derived_changed (get a p) (get b p)) (is_some (moved a b p)) (is_some (moved b a p));
  derived = set_derived (has_content (get a p) (get b p)) (has_open (get a p) (get b p)) (has_type (get a p) (get b p)) (has_sync (get a p) (get b p)) (has_markers (get a p) (get b p)) (has_replaced (get a p) (get b p)) (has_description (get a p) (get b p)) (has_derived_changed (get a p) (get b p)) (is_some (moved a b p)) (is_some (moved b a p));
  moved_from = set_moved_from (has_content (get a p) (get b p)) (has_open (get a p) (get b p)) (has_type (get a p) (get b p)) (has_sync (get a p) (get b p)) (has_markers (get a p) (get b p)) (has_replaced (get a p) (get b p)) (has_description (get a p) (get b p)) (has_derived_changed (get a p) (get b p)) (is_some (moved a b p)) (is_some (moved b a p));
  moved_to = set_moved_to (has_content (get a p) (get b p)) (has_open (get a p) (get b p)) (has_type (get a p) (get b p)) (has_sync (get a p) (get b p)) (has_markers (get a p) (get b p)) (has_replaced (get a p) (get b p)) (has_description (get a p) (get b p)) (has_derived_changed (get a p) (get b p)) (is_some (moved a b p)) (is_some (moved b a p));
}

all_told : (a b : Tree) (ps : List Names) → TellsPaths a b (map (node_at a b) ps)
all_told a b [] = tt
all_told a b (p ∷ ps) = (told a b p, all_told a b ps)

pub tells_paths : (a b : Tree) → TellsPaths a b (delta a b)
tells_paths a b = all_told a b (with_above (changed a b))
