-- What stands at a path, by cases.
use Rattle.std.proofs.Common.{◌≡◌, Bool, true, false, cond, refl, sym, ap, subst}
use Rattle.std.specs.Prelude.{Option, Some, None, IfSome, IsSomeAnd}
use Rattle.std.specs.Option.{option_map, option_or}
use Rattle.ws_elem.specs.declared.element.Element.{Element}

pub at_cond : {X : Type 0} (P : X → Type 0) (b : Bool) (x y : X) → (b ≡ true → P x) → (b ≡ false → P y) → P (cond b x y)
at_cond P true x y h g = h refl
at_cond P false x y h g = g refl

pub cond_true : {X : Type 0} (b : Bool) (x y : X) → b ≡ true → cond b x y ≡ x
cond_true b x y h = ap (λ c. cond c x y) h

pub cond_false : {X : Type 0} (b : Bool) (x y : X) → b ≡ false → cond b x y ≡ y
cond_false b x y h = ap (λ c. cond c x y) h

-- what holds of an element, if there is one, follows from what holds of it
pub if_map : (A B : Element → Type 0) (x : Option Element) → ((e : Element) → A e → B e) → IfSome x A → IfSome x B
if_map A B None f h = tt
if_map A B (Some e) f h = f e h

-- the same where it is known which element is there
pub if_there : (B : Element → Type 0) (x : Option Element) → ((e : Element) → x ≡ Some e → B e) → IfSome x B
if_there B None f = tt
if_there B (Some e) f = f e refl

-- what holds of an element that is there
pub at_some : (A : Element → Type 0) (x : Option Element) (e : Element) → x ≡ Some e → IfSome x A → A e
at_some A x e h = subst (λ y. IfSome y A → A e) (sym h) (λ a. a)

pub at_two : (A : Element → Element → Type 0) (x y : Option Element) (e f : Element) → x ≡ Some e → y ≡ Some f → IfSome x (λ g. IfSome y (λ h. A g h)) → A e f
at_two A x y e f h g a = at_some (A e) y f g (at_some (λ k. IfSome y (λ l. A k l)) x e h a)

pub some_map : (A B : Element → Type 0) (x : Option Element) → ((e : Element) → A e → B e) → IsSomeAnd x A → IsSomeAnd x B
some_map A B None f h = h
some_map A B (Some e) f h = f e h

pub none_some : (A : Element → Type 0) (x : Option Element) → x ≡ None → IsSomeAnd x A → ⊥
none_some A x h a = subst (λ y. IsSomeAnd y A) h a

pub if_as : (A : Element → Type 0) (x y : Option Element) → x ≡ y → IfSome y A → IfSome x A
if_as A x y h = subst (λ z. IfSome z A) (sym h)

pub if_none : (x : Option Element) → IfSome x (λ e. ⊥) → x ≡ None
if_none None h = refl
if_none (Some e) h = absurd h

pub none_if : (A : Element → Type 0) (x : Option Element) → x ≡ None → IfSome x A
none_if A x h = if_as A x None h tt

pub some_none : (e : Element) → Some e ≡ None → ⊥
some_none e h = cc

pub some_same : (e f : Element) → Some e ≡ Some f → e ≡ f
some_same e f h = cc

pub or_none : (x : Option Element) → option_or x None ≡ x
or_none None = refl
or_none (Some e) = refl

-- what is changed is there where it was
pub map_if : (f : Element → Element) (A : Element → Type 0) (x : Option Element) → IfSome x (λ e. A (f e)) → IfSome (option_map f x) A
map_if f A None h = tt
map_if f A (Some e) h = h

pub map_some : (f : Element → Element) (A : Element → Type 0) (x : Option Element) → IsSomeAnd x (λ e. A (f e)) → IsSomeAnd (option_map f x) A
map_some f A None h = h
map_some f A (Some e) h = h

-- ---- of any kind

pub absent_if : {X : Type 0} (A : X → Type 0) (x : Option X) → x ≡ None → IfSome x A
absent_if A x h = subst (λ y. IfSome y A) (sym h) tt
