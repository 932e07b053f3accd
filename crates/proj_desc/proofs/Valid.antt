-- A description without a cause is valid.
use Rattle.std.proofs.Common.{◌≡◌, ◌≢◌, ℕ, zero, suc, ◌+◌, ◌<◌, ◌≤◌, Bool, true, false, not, cond, ◌&&◌, ◌||◌, nat_lt, List, [], ◌∷◌, length, get_or, Option, Some, None, refl, sym, ap, ◌∙◌, arith, true≢false}
use Rattle.std.specs.Prelude.{position, option_map}
use Rattle.std.specs.Option.{option_or}
use Rattle.std.specs.List.{All, AllPass, AllPairs, list_all, list_any, position_or_len}
use Rattle.std.specs.Str.{bytes_eq}
use Rattle.std.specs.Cmp.Lexicographic.{bytes_decides}
use Rattle.std.proofs.lemmas.Bool.Decides.{nat_tests}
use Rattle.std.proofs.lemmas.List.Kept.{AllPairs-cons}
use Rattle.res_path.proofs.Spelled.{both}
use Rattle.proj_desc.specs.declared.command.Command.{Command}
use Rattle.proj_desc.specs.declared.cause.DescCause.TheVariants as cause
use Rattle.proj_desc.specs.declared.desc.Desc.{Desc}
use Rattle.proj_desc.specs.Causes.{is_many, has_bad_name, has_places, first_double, is_foreign, meets, outputs_from, inputs_from, word_cause, link_cause, rule_cause}
use Rattle.res_path.specs.Paths.{overlap}
use Rattle.proj_desc.specs.FirstCause.{when}
use Rattle.proj_desc.specs.Valid.{IsValid}
use Rattle.proj_desc.proofs.Back.{first_none, second_none, applied}

-- ---- tests that fail for all

pub none_or : (a b : Bool) → (a || b) ≡ false → (a ≡ false) × (b ≡ false)
none_or true b h = cc
none_or false b h = (refl, h)

pub any_false : {A : Type 0} (p : A → Bool) (xs : List A) → list_any p xs ≡ false → All (λ x. p x ≡ false) xs
any_false p [] h k d l = absurd (omega arith)
any_false p (x ∷ xs) h zero d l = (none_or (p x) (list_any p xs) h).0
any_false p (x ∷ xs) h (suc k) d l = any_false p xs (none_or (p x) (list_any p xs) h).1 k d (omega arith)

pub all_true : {A : Type 0} (p : A → Bool) (xs : List A) → list_all p xs ≡ true → AllPass p xs
all_true p [] h k d l = absurd (omega arith)
all_true p (x ∷ xs) h zero d l = (both (p x) (list_all p xs) h).0
all_true p (x ∷ xs) h (suc k) d l = all_true p xs (both (p x) (list_all p xs) h).1 k d (omega arith)

unchosen : {C : Type 0} (b : Bool) (c : C) → cond b (Some c) None ≡ None → b ≡ false
unchosen true c h = cc
unchosen false c h = refl

unmapped : {B C : Type 0} (f : B → C) (o : Option B) → option_map f o ≡ None → o ≡ None
unmapped f None h = refl
unmapped f (Some b) h = cc

after_first : {A : Type 0} (p : A → Bool) (x : A) (xs : List A) → p x ≡ false → position_or_len p (x ∷ xs) ≡ position_or_len p xs + 1
after_first p x xs e = rw e (omega arith)

at_first : {A : Type 0} (p : A → Bool) (x : A) (xs : List A) → p x ≡ true → position_or_len p (x ∷ xs) ≡ 0
at_first p x xs e = rw e refl

no_place : {A : Type 0} (p : A → Bool) (xs : List A) → position p xs ≡ None → list_any p xs ≡ false
no_place p [] h = refl
no_place p (x ∷ xs) h = by (p x) refl (no_place p xs)
  where
    by : (b : Bool) → p x ≡ b → (position p xs ≡ None → list_any p xs ≡ false) → (p x || list_any p xs) ≡ false
    by true e go =
        let test = unchosen (nat_lt (position_or_len p (x ∷ xs)) (length (x ∷ xs))) (position_or_len p (x ∷ xs)) h in
        let here = at_first p x xs e in
        absurd (grind (arith, nat_tests))
    by false e go =
        let test = unchosen (nat_lt (position_or_len p (x ∷ xs)) (length (x ∷ xs))) (position_or_len p (x ∷ xs)) h in
        let past = after_first p x xs e in
        let rest : nat_lt (position_or_len p xs) (length xs) ≡ false = grind (arith, nat_tests) in
        let none : position p xs ≡ None = ap (λ b. cond b (Some (position_or_len p xs)) None) rest in
        λ i. e i || go none i

nowhere : {A : Type 0} (p : A → Bool) (xs : List A) → position p xs ≡ None → All (λ x. p x ≡ false) xs
nowhere p xs h = any_false p xs (no_place p xs h)

-- ---- names that differ

differ : (a b : List ℕ) → bytes_eq a b ≡ false → a ≢ b
differ a b h e = true≢false (sym ((bytes_decides a b).1 e) ∙ h)

other_names : (name : List ℕ) (names : List (List ℕ)) → list_any (bytes_eq name) names ≡ false → All (λ other. name ≢ other) names
other_names name names h k d l = differ name (get_or names k d) (any_false (bytes_eq name) names h k d l)

each_once : (names : List (List ℕ)) → first_double names ≡ None → AllPairs (λ a b. a ≢ b) names
each_once [] h = λ i j d l m. absurd (omega arith)
each_once (name ∷ names) h = by (list_any (bytes_eq name) names) refl h (each_once names)
  where
    by : (b : Bool) → list_any (bytes_eq name) names ≡ b → cond b (Some name) (first_double names) ≡ None → (first_double names ≡ None → AllPairs (λ a b. a ≢ b) names)
        → AllPairs (λ a b. a ≢ b) (name ∷ names)
    by true e g go = cc
    by false e g go = AllPairs-cons (λ a b. a ≢ b) name names (other_names name names e) (go g)

-- ---- overlaps

outputs_apart : (at : ℕ) (cs : List Command) → outputs_from at cs ≡ None → AllPairs (λ c e. overlap c.output e.output ≡ false) cs
outputs_apart at [] h = λ i j d l m. absurd (omega arith)
outputs_apart at (c ∷ cs) h =
    let here = unmapped (λ j. cause.Outputs at (at + 1 + j)) (position (λ later. overlap c.output later.output) cs) (first_none _ _ h) in
    AllPairs-cons (λ c e. overlap c.output e.output ≡ false) c cs (nowhere (λ later. overlap c.output later.output) cs here) (outputs_apart (at + 1) cs (second_none _ _ h))

inputs_unread : (at : ℕ) (cs : List Command) → inputs_from at cs ≡ None → (i j : ℕ) (d : Command) → i ≤ j → j < length cs
    → list_any (meets (get_or cs j d).output) (get_or cs i d).inputs ≡ false
inputs_unread at [] h i j d l m = absurd (omega arith)
inputs_unread at (c ∷ cs) h zero j d l m =
    nowhere (λ later. list_any (meets later.output) c.inputs) (c ∷ cs)
    (unmapped (λ j. cause.Inputs at (at + j)) (position (λ later. list_any (meets later.output) c.inputs) (c ∷ cs)) (first_none _ _ h)) j d m
inputs_unread at (c ∷ cs) h (suc i) zero d l m = absurd (omega arith)
inputs_unread at (c ∷ cs) h (suc i) (suc j) d l m = inputs_unread (at + 1) cs (second_none _ _ h) i j d (omega arith) (omega arith)

-- ---- all

pub valid : (project : List ℕ) (d : Desc) → rule_cause project d ≡ None → IsValid project d
valid project d h =
    let words = first_none (word_cause project d) (link_cause project d) h in
    let after_many = second_none _ _ words in
    let after_names = second_none _ _ after_many in
    let links = second_none (word_cause project d) (link_cause project d) h in
    let after_self = second_none _ _ links in
    let after_double = second_none _ _ after_self in
    let after_foreign = second_none _ _ after_double in
    let after_outputs = second_none _ _ after_foreign in
    let self = unchosen (list_any (bytes_eq project) d.references) cause.SelfReference (first_none _ _ links) in
    record {
      few = unchosen (is_many d) cause.Many (first_none _ _ words);
      named = unchosen (has_bad_name d) cause.BadName (first_none _ _ after_many);
      placed = all_true (has_places project) d.commands (applied (list_all (has_places project) d.commands) cause.BadPath (first_none _ _ after_names));
      others = λ k e l. λ same. other_names project d.references self k e l (sym same);
      once = each_once d.references (unmapped cause.Double (first_double d.references) (first_none _ _ after_self));
      referenced = nowhere (λ c. list_any (is_foreign d.references) c.inputs) d.commands (unmapped cause.Foreign _ (first_none _ _ after_double));
      apart = outputs_apart 0 d.commands (first_none _ _ after_foreign);
      unread = inputs_unread 0 d.commands (first_none _ _ after_outputs);
    }

-- ---- and a valid description has no cause

false_all : {A : Type 0} (p : A → Bool) (xs : List A) → All (λ x. p x ≡ false) xs → list_any p xs ≡ false
false_all p [] h = refl
false_all p (x ∷ xs) h = λ i. h 0 x (omega arith) i || false_all p xs (λ k d l. h (suc k) d (omega arith)) i

true_all : {A : Type 0} (p : A → Bool) (xs : List A) → AllPass p xs → list_all p xs ≡ true
true_all p [] h = refl
true_all p (x ∷ xs) h = λ i. h 0 x (omega arith) i && true_all p xs (λ k d l. h (suc k) d (omega arith)) i

to_the_end : {A : Type 0} (p : A → Bool) (xs : List A) → All (λ x. p x ≡ false) xs → position_or_len p xs ≡ length xs
to_the_end p [] h = refl
to_the_end p (x ∷ xs) h =
    let past = after_first p x xs (h 0 x (omega arith)) in
    let rest = to_the_end p xs (λ k d l. h (suc k) d (omega arith)) in
    omega arith

no_position : {A : Type 0} (p : A → Bool) (xs : List A) → All (λ x. p x ≡ false) xs → position p xs ≡ None
no_position p xs h =
    let end = to_the_end p xs h in
    let none : nat_lt (position_or_len p xs) (length xs) ≡ false = grind (arith, nat_tests) in
    ap (λ b. cond b (Some (position_or_len p xs)) None) none

pub unlike : (a b : List ℕ) → a ≢ b → bytes_eq a b ≡ false
unlike a b h = by (bytes_eq a b) refl
  where
    by : (b' : Bool) → bytes_eq a b ≡ b' → b' ≡ false
    by true e = absurd (h ((bytes_decides a b).0 e))
    by false e = refl

no_double : (names : List (List ℕ)) → AllPairs (λ a b. a ≢ b) names → first_double names ≡ None
no_double [] h = refl
no_double (name ∷ names) h =
    let none = false_all (bytes_eq name) names (λ k d l. unlike name (get_or names k d) (h 0 (suc k) d (omega arith) (omega arith))) in
    ap (λ b. cond b (Some name) (first_double names)) none ∙ no_double names (λ i j d l m. h (suc i) (suc j) d (omega arith) (omega arith))

pub both_none : {C : Type 0} (o p : Option C) → o ≡ None → p ≡ None → option_or o p ≡ None
both_none o p e f = λ i. option_or (e i) (f i)

no_outputs : (at : ℕ) (cs : List Command) → AllPairs (λ c e. overlap c.output e.output ≡ false) cs → outputs_from at cs ≡ None
no_outputs at [] h = refl
no_outputs at (c ∷ cs) h =
    both_none _ _
    (ap (option_map (λ j. cause.Outputs at (at + 1 + j))) (no_position (λ later. overlap c.output later.output) cs (λ k d l. h 0 (suc k) d (omega arith) (omega arith))))
    (no_outputs (at + 1) cs (λ i j d l m. h (suc i) (suc j) d (omega arith) (omega arith)))

no_inputs : (at : ℕ) (cs : List Command)
    → ((i j : ℕ) (d : Command) → i ≤ j → j < length cs → list_any (meets (get_or cs j d).output) (get_or cs i d).inputs ≡ false) → inputs_from at cs ≡ None
no_inputs at [] h = refl
no_inputs at (c ∷ cs) h =
    both_none _ _
    (ap (option_map (λ j. cause.Inputs at (at + j)))
    (no_position (λ later. list_any (meets later.output) c.inputs) (c ∷ cs) (λ k d l. h 0 k d (omega arith) (omega arith))))
    (no_inputs (at + 1) cs (λ i j d l m. h (suc i) (suc j) d (omega arith) (omega arith)))

pub no_cause : (project : List ℕ) (d : Desc) → IsValid project d → rule_cause project d ≡ None
no_cause project d v =
    let placed = true_all (has_places project) d.commands v.placed in
    let self = false_all (bytes_eq project) d.references (λ k e l. unlike project (get_or d.references k e) (λ same. v.others k e l (sym same))) in
    let double = no_double d.references v.once in
    let foreign = no_position (λ c. list_any (is_foreign d.references) c.inputs) d.commands v.referenced in
    both_none _ _
    (both_none _ _ (ap (λ b. when b cause.Many) v.few)
    (both_none _ _ (ap (λ b. when b cause.BadName) v.named) (both_none _ _ (ap (λ b. when (not b) cause.BadPath) placed) refl)))
    (both_none _ _ (ap (λ b. when b cause.SelfReference) self)
    (both_none _ _ (ap (option_map cause.Double) double)
    (both_none _ _ (ap (option_map cause.Foreign) foreign)
    (both_none _ _ (no_outputs 0 d.commands v.apart) (both_none _ _ (no_inputs 0 d.commands v.unread) refl)))))
