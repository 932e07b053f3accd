-- What was read, piece by piece.
use Rattle.std.proofs.Common.{◌≡◌, ◌⊎◌, inl, inr, ℕ, ◌+◌, ◌≤◌, List, [], ◌++◌, length, Option, Some, None, refl, sym, ◌∙◌, ap, subst, arith, append_assoc, length-append}
use Rattle.std.specs.Prelude.{option_map, IfSome}
use Rattle.ws_outside.specs.Streams.{Takes, CountsOne}
use Rattle.ws_top.specs.declared.reading.Unread.{Unread}
use Rattle.ws_top.specs.declared.reading.Unread.TheVariants.{Fault, TooLong, Memory}
use Rattle.ws_top.specs.Inside.Parts.{IsUnreadCause, IsUnreadLength}
use Rattle.ws_top.specs.Limits.{longest, Reads, ReadsShort, ReadsLong}

pub takes_none : (told : Option (List ℕ)) → Takes told [] told
takes_none None = refl
takes_none (Some bytes) = refl

pub takes_more : (a b c : Option (List ℕ)) (xs ys : List ℕ) → Takes a xs b → Takes b ys c → Takes a (xs ++ ys) c
takes_more a b None xs ys h g = h ∙ ap (option_map (λ rest. xs ++ rest)) g
takes_more a b (Some rest) xs ys h g = h ∙ ap (option_map (λ rest. xs ++ rest)) g ∙ ap Some (sym (append_assoc xs ys rest))

-- so many reads took so many bytes, at least one each
abbrev pub AtMost : Option ℕ → Option ℕ → ℕ → Type 0
AtMost before after k = IfSome after (λ n. IfSome before (λ m. n ≤ m + k))

pub at_most_none : (told : Option ℕ) → AtMost told told 0
at_most_none None = tt
at_most_none (Some n) = omega arith

-- one more read
pub at_most_one : (before mid after : Option ℕ) (k : ℕ) → AtMost before mid k → CountsOne mid after → AtMost before after (k + 1)
at_most_one before mid None k h c = tt
at_most_one before None (Some n) k h c = absurd c
at_most_one None (Some m) (Some n) k h c = tt
at_most_one (Some l) (Some m) (Some n) k h c = omega (arith, h, c)

pub at_most_le : (before after : Option ℕ) (k l : ℕ) → k ≤ l → AtMost before after k → AtMost before after l
at_most_le before None k l e h = tt
at_most_le None (Some n) k l e h = tt
at_most_le (Some m) (Some n) k l e h = omega (arith, e, h)

few_of : (before after : Option ℕ) (k : ℕ) → AtMost before after (k + 1) → IfSome after (λ n. IfSome before (λ m. n ≤ m + k + 1))
few_of before None k h = tt
few_of None (Some n) k h = tt
few_of (Some m) (Some n) k h = omega (arith, h)

at_most_counted : (before mid after : Option ℕ) (k : ℕ) → AtMost before mid k → (after ≡ mid) ⊎ CountsOne mid after → AtMost before after (k + 1)
at_most_counted before mid after k h (inl e) = subst (λ (told : Option ℕ). AtMost before told (k + 1)) (sym e) (at_most_le before mid k (k + 1) (omega arith) h)
at_most_counted before mid after k h (inr c) = at_most_one before mid after k h c

-- a read that took nothing
pub reads_none : (a b c : Option (List ℕ)) (before mid after : Option ℕ) (xs : List ℕ) → Takes a xs b → c ≡ b → length xs ≤ longest → AtMost before mid (length xs) → (after ≡ mid) ⊎ CountsOne mid after → (bytes : List ℕ) × Reads a c before after bytes
reads_none a b c before mid after xs h e l f k = (
  xs,
  record {
    taken = subst (λ (told : Option (List ℕ)). Takes a xs told) (sym e) h;
    bounded = omega (arith, l);
    few = few_of before after (length xs) (at_most_counted before mid after (length xs) f k);
  },
)

-- a read that took some more
pub reads_more : (a b c : Option (List ℕ)) (before mid after : Option ℕ) (xs ys : List ℕ) → Takes a xs b → Takes b ys c → length xs + length ys ≤ longest + 1 → AtMost before mid (length xs) → (after ≡ mid) ⊎ CountsOne mid after → (bytes : List ℕ) × Reads a c before after bytes
reads_more a b c before mid after xs ys h g l f k = (
  xs ++ ys,
  record {
    taken = takes_more a b c xs ys h g;
    bounded = omega (arith, l, length-append xs ys);
    few = few_of before after (length (xs ++ ys)) (at_most_le before after (length xs + 1) (length (xs ++ ys) + 1) (omega (arith, length-append xs ys)) (at_most_counted before mid after (length xs) f k));
  },
)

-- a read that took at least one byte keeps the count within the bytes
pub at_most_more : (before mid after : Option ℕ) (xs ys : List ℕ) → (length ys ≡ 0 → ⊥) → AtMost before mid (length xs) → (after ≡ mid) ⊎ CountsOne mid after → AtMost before after (length (xs ++ ys))
at_most_more before mid after xs ys n f k = at_most_le before after (length xs + 1) (length (xs ++ ys)) (omega (arith, n, length-append xs ys)) (at_most_counted before mid after (length xs) f k)

pub short_same : (a b c : Option (List ℕ)) (xs : List ℕ) → Takes a xs b → c ≡ b → length xs ≤ longest → ReadsShort a c
short_same a b c xs h e l = (xs, l, subst (λ (told : Option (List ℕ)). Takes a xs told) (sym e) h)

pub short_more : (a b c : Option (List ℕ)) (xs ys : List ℕ) → Takes a xs b → Takes b ys c → length xs + length ys ≤ longest → ReadsShort a c
short_more a b c xs ys h g l = (xs ++ ys, omega (arith, l, length-append xs ys), takes_more a b c xs ys h g)

pub long_more : (a b c : Option (List ℕ)) (xs ys : List ℕ) → Takes a xs b → Takes b ys c → length xs + length ys ≡ longest + 1 → ReadsLong a c
long_more a b c xs ys h g l = (xs ++ ys, omega (arith, l, length-append xs ys), takes_more a b c xs ys h g)

-- a cause that comes later, where no read failed before
pub cause_on : (e : Unread) (f g h : ℕ) → g ≡ f → IsUnreadCause e g h → IsUnreadCause e f h
cause_on e f g h c k = subst (λ (n : ℕ). IsUnreadCause e n h) c k

-- no more was read than the longest script has
pub length_short : (e : Unread) (a b : Option (List ℕ)) → (e ≡ TooLong → ⊥) → ReadsShort a b → IsUnreadLength e a b
length_short Fault a b n s = s
length_short TooLong a b n s = absurd (n refl)
length_short Memory a b n s = s
