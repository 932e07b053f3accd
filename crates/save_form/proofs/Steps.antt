-- Steps of reading, one after the other.
use Rattle.std.proofs.Common.{◌≡◌, ℕ, ◌+◌, Bool, true, false, cond, List, ◌++◌, length, Result, Ok, Err, refl, sym, ap, ◌∙◌, append_assoc, arith, length-append, ◌⊎◌, inl, inr}
use Rattle.ws_wire.specs.Fields.{Input, Takes}
use Rattle.save_form.specs.declared.stop.Stop.{Stop}
use Rattle.save_form.specs.Forms.{Reading, Form, ◌>>=◌}
use Rattle.save_form.specs.Laws.{Lawful}

abbrev pub went : {A : Type 0} → A → Result A Stop
went x = Ok x

abbrev pub stuck : {A : Type 0} → Stop → Result A Stop
stuck stop = Err stop

pub ok_is : {A : Type 0} (x y : A) → went x ≡ went y → x ≡ y
ok_is x y e = cc

pub err_is : {A : Type 0} (s t : Stop) → stuck {A = A} s ≡ stuck t → s ≡ t
err_is s t e = cc

pub never_both : {A : Type 0} (x : A) (s : Stop) → went x ≡ stuck s → ⊥
never_both x s e = absurd cc

-- a step that gave a value came of one that gave a value
pub bind_ok : {A B : Type 0} (r : Reading A) (next : A × Input → Reading B) (y : B × Input) → (r >>= next) ≡ Ok y → (x : A × Input) × (r ≡ Ok x) × (next x ≡ Ok y)
bind_ok (Ok x) next y e = (x, refl, e)
bind_ok (Err s) next y e = absurd cc

-- a step that got stuck did so itself, or behind one that gave a value
pub bind_stuck : {A B : Type 0} (r : Reading A) (next : A × Input → Reading B) (s : Stop) → (r >>= next) ≡ Err s → (r ≡ Err s) ⊎ ((x : A × Input) × (r ≡ Ok x) × (next x ≡ Err s))
bind_stuck (Ok x) next s e = inr (x, refl, e)
bind_stuck {B = B} (Err t) next s e = inl (ap (λ (u : Stop). Err u) (err_is {A = B × Input} t s e))

-- a test that was passed
pub test_ok : {A : Type 0} (b : Bool) (s : Stop) (x y : A) → cond b (Ok x) (Err s) ≡ Ok y → (b ≡ true) × (x ≡ y)
test_ok true s x y e = (refl, cc)
test_ok false s x y e = absurd cc

-- fields that were taken one behind the other
pub Takes-then : (i j k : Input) (x y : List ℕ) → Takes i x j → Takes j y k → Takes i (x ++ y) k
Takes-then i j k x y p q = record {
  bytes = p.bytes ∙ ap (λ (t : List ℕ). x ++ t) q.bytes ∙ sym (append_assoc x y k.left);
  at = omega (arith, p.at, q.at, length-append x y);
}

-- what is taken and fits is read
pub taken_read : {A : Type 0} (fits : A → Type 0) (f : Form A) → Lawful fits f → (i j : Input) (a : A) → Takes i (f.spell a) j → fits a → f.read i ≡ Ok (a, j)
taken_read {A = A} fits f l i j a takes fit =
    let there : i ≡ record { at = i.at; left = f.spell a ++ j.left } = ap (λ (left : List ℕ). record { at = i.at; left = left }) takes.bytes in
    let back : record { at = i.at + length (f.spell a); left = j.left } ≡ j = ap (λ (at : ℕ). record { at = at; left = j.left }) (sym takes.at) in
    ap f.read there ∙ l.again i.at a j.left fit ∙ ap (λ (k : Input). Ok (a, k)) back
