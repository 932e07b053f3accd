-- What a list contains, and where references lead.
use Rattle.std.proofs.Common.{◌≡◌, ◌⊎◌, inl, inr, suc, List, [], ◌∷◌, ◌++◌, refl, sym, subst, arith}
use Rattle.std.specs.List.{Contains}
use Rattle.std.proofs.lemmas.List.Elements.{Contains-append_cases, Contains-push_cases}
use Rattle.build_order.specs.Orders.{IsWay, Leads}

pub none : {X : Type 0} (x : X) → Contains [] x → ⊥
none x h = omega (arith, h.1)

pub cons_cases : {X : Type 0} (y : X) (ys : List X) (x : X) → Contains (y ∷ ys) x → (y ≡ x) ⊎ Contains ys x
cons_cases y ys x h = elim (Contains-append_cases (y ∷ []) ys x h) [
  | inl a ↦ elim (Contains-push_cases [] y x a) [ inl n ↦ absurd (none x n) | inr e ↦ inl e ]
  | inr b ↦ inr b
]

pub at_front : {X : Type 0} (x : X) (xs : List X) → Contains (x ∷ xs) x
at_front x xs = (0, omega arith, refl)

pub behind : {X : Type 0} (y : X) (xs : List X) (x : X) → Contains xs x → Contains (y ∷ xs) x
behind y xs x h = (suc h.0, omega (arith, h.1), h.2)

pub only_one : {X : Type 0} (y x : X) → Contains (y ∷ []) x → y ≡ x
only_one y x h = elim (Contains-push_cases [] y x h) [ inl n ↦ absurd (none x n) | inr e ↦ e ]

pub only_one_is : {X : Type 0} (x : X) → Contains (x ∷ []) x
only_one_is x = (0, omega arith, refl)

way_joined : {X : Type 0} (R : X → X → Type 0) (ms ns : List X) (a b c : X) → IsWay R a ms b → IsWay R b ns c → IsWay R a (ms ++ ns) c
way_joined R [] ns a b c h k = subst (λ x. IsWay R x ns c) (sym h) k
way_joined R (m ∷ ms) ns a b c h k = (h.0, way_joined R ms ns m b c h.1 k)

pub leads_on : {X : Type 0} (R : X → X → Type 0) (a b c : X) → Leads R a b → Leads R b c → Leads R a c
leads_on R a b c h k = (h.0 ++ k.0, way_joined R h.0 k.0 a b c h.1 k.1)

pub leads_here : {X : Type 0} (R : X → X → Type 0) (a : X) → Leads R a a
leads_here R a = ([], refl)

pub one_step : {X : Type 0} (R : X → X → Type 0) (a b : X) → R a b → Leads R a b
one_step R a b r = (b ∷ [], (r, refl))
