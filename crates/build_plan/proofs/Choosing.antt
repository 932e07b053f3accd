-- Which projects are ready, and that some are.
use Rattle.std.proofs.Common.{◌≡◌, ◌⊎◌, inl, inr, ℕ, zero, suc, ◌<◌, ◌≤◌, Bool, true, false, not, ◌||◌, List, [], ◌∷◌, length, refl, sym, ◌∙◌, subst, arith}
use Rattle.std.specs.List.{Contains, filter, list_all}
use Rattle.std.proofs.lemmas.Bool.{cases_Bool, or_cases, or_left, or_right, or_parts, and_from, and_parts, and_cases, not-true, not-false, not_from_false, false_from_ne_true}
use Rattle.res_path.specs.Paths.{Names}
use Rattle.build_order.specs.Orders.{Projects, IsProject, Refers, IsWay, Leads, AreMutual, IsReady}
use Rattle.build_order.proofs.Members.{leads_on, leads_here, one_step}
use Rattle.build_plan.specs.Ordered.{names_of, is_among, leads_to, is_ready}
use Rattle.build_plan.proofs.Listed.{all_has, all_from, all_fails, filter_fewer, is_one, one_is}
use Rattle.build_plan.proofs.Leading.{leads_true, true_leads}

module _ (ps : Projects) where
  -- what is placed refers to nothing that isn't
  abbrev pub IsClosed : Names → Type 0
  IsClosed placed = (a b : List ℕ) → Contains placed a → Refers ps a b → Contains placed b

  way_closed : (placed ms : Names) (a b : List ℕ) → IsClosed placed → Contains placed a → IsWay (Refers ps) a ms b → Contains placed b
  way_closed placed [] a b closed i w = subst (Contains placed) w i
  way_closed placed (m ∷ ms) a b closed i w = way_closed placed ms m b closed (closed a m i w.0) w.1

  pub leads_closed : (placed : Names) (a b : List ℕ) → IsClosed placed → Contains placed a → Leads (Refers ps) a b → Contains placed b
  leads_closed placed a b closed i h = way_closed placed h.0 a b closed i h.1

  pub mutual_on : (a b c : List ℕ) → AreMutual ps a b → AreMutual ps b c → AreMutual ps a c
  mutual_on a b c h g = (leads_on (Refers ps) a b c h.0 g.0, leads_on (Refers ps) c b a g.1 h.1)

  pub mutual_back : (a b : List ℕ) → AreMutual ps a b → AreMutual ps b a
  mutual_back a b h = (h.1, h.0)

  pub mutual_here : (a : List ℕ) → AreMutual ps a a
  mutual_here a = (leads_here (Refers ps) a, leads_here (Refers ps) a)

  -- ---- the test of readiness

  abbrev holds_up : Names → List ℕ → List ℕ → Bool
  holds_up placed n m = not (leads_to ps n m) || (is_among placed m || leads_to ps m n)

  pub ready_true : (placed : Names) (n : List ℕ) → IsProject ps n → is_ready ps placed n ≡ true → IsReady ps placed n
  ready_true placed n here h =
      let parts = and_parts (not (is_among placed n)) (list_all (holds_up placed n) (names_of ps)) h in
      record {
        project = here;
        waits = λ i. let no : true ≡ false = sym (one_is placed n i) ∙ not-true (is_among placed n) parts.0 in cc;
        free = λ m p together refers. elim (or_cases (not (leads_to ps n p)) (is_among placed p || leads_to ps p n) (all_has (holds_up placed n) (names_of ps) p parts.1 refers.project)) [
          | inl not_led ↦ absurd (let no : false ≡ true = sym (not-true (leads_to ps n p) not_led) ∙ true_leads ps n p (there m p together refers) in cc)
          | inr free ↦ elim (or_cases (is_among placed p) (leads_to ps p n) free) [
            | inl is_placed ↦ inl (is_one placed p is_placed)
            | inr back ↦ inr (there m p together refers, leads_true ps p n back)
          ]
        ];
      }
    where
      there : (m p : List ℕ) → AreMutual ps n m → Refers ps m p → Leads (Refers ps) n p
      there m p together refers = leads_on (Refers ps) n m p together.0 (one_step (Refers ps) m p refers)

  -- a way from the component ends in it, or in what is placed
  way_free : (placed : Names) (n : List ℕ) → IsClosed placed → IsReady ps placed n → (ms : Names) (a b : List ℕ) → AreMutual ps n a → IsWay (Refers ps) a ms b → Contains placed b ⊎ AreMutual ps n b
  way_free placed n closed ready [] a b together w = inr (subst (AreMutual ps n) w together)
  way_free placed n closed ready (m ∷ ms) a b together w = elim (ready.free a m together w.0) [
    | inl is_placed ↦ inl (way_closed placed ms m b closed is_placed w.1)
    | inr on ↦ way_free placed n closed ready ms m b on w.1
  ]

  pub true_ready : (placed : Names) (n : List ℕ) → IsClosed placed → IsReady ps placed n → is_ready ps placed n ≡ true
  true_ready placed n closed ready = and_from (not (is_among placed n)) (list_all (holds_up placed n) (names_of ps))
      (not_from_false (is_among placed n) (false_from_ne_true (is_among placed n) (λ h. ready.waits (is_one placed n h))))
      (all_from (holds_up placed n) (names_of ps) (λ m i. elim (cases_Bool (leads_to ps n m)) [
        | inr not_led ↦ or_left (not (leads_to ps n m)) (is_among placed m || leads_to ps m n) (not_from_false (leads_to ps n m) not_led)
        | inl led ↦ or_right (not (leads_to ps n m)) (is_among placed m || leads_to ps m n)
            (let way = leads_true ps n m led in
            elim (way_free placed n closed ready way.0 n m (mutual_here n) way.1) [
              | inl is_placed ↦ or_left (is_among placed m) (leads_to ps m n) (one_is placed m is_placed)
              | inr together ↦ or_right (is_among placed m) (leads_to ps m n) (true_leads ps m n together.1)
            ])
      ]))

  -- ---- where a project isn't placed, some is ready

  -- what isn't placed and isn't ready leads to another that isn't placed, and doesn't lead back
  pub record IsBehind (placed : Names) (n m : List ℕ) : Type 0 where
    pub project : IsProject ps m
    pub waits : is_among placed m ≡ false
    pub led : leads_to ps n m ≡ true
    pub apart : leads_to ps m n ≡ false

  behind_some : (placed : Names) (n : List ℕ) → is_among placed n ≡ false → is_ready ps placed n ≡ false → (m : List ℕ) × IsBehind placed n m
  behind_some placed n waits h = elim (and_cases (not (is_among placed n)) (list_all (holds_up placed n) (names_of ps)) h) [
    | inl here ↦ absurd (let no : true ≡ false = sym (not-false (is_among placed n) here) ∙ waits in cc)
    | inr fails ↦
        let m = all_fails (holds_up placed n) (names_of ps) fails in
        let parts = or_parts (not (leads_to ps n m.0)) (is_among placed m.0 || leads_to ps m.0 n) m.2 in
        let others = or_parts (is_among placed m.0) (leads_to ps m.0 n) parts.1 in
        (m.0, record { project = m.1; waits = others.0; led = not-false (leads_to ps n m.0) parts.0; apart = others.1 })
  ]

  led_by : List ℕ → ℕ
  led_by n = length (filter (leads_to ps n) (names_of ps))

  fewer_led : (placed : Names) (n m : List ℕ) → IsProject ps n → IsBehind placed n m → led_by m < led_by n
  unfolding led_by
  fewer_led placed n m here h = filter_fewer (leads_to ps m) (leads_to ps n)
      (λ x led. true_leads ps n x (leads_on (Refers ps) n m x (leads_true ps n m h.led) (leads_true ps m x led)))
      (names_of ps) n here h.apart (true_leads ps n n (leads_here (Refers ps) n))

  some_by : (k : ℕ) (placed : Names) (n : List ℕ) → led_by n ≤ k → IsProject ps n → is_among placed n ≡ false → (r : List ℕ) × IsProject ps r × (is_ready ps placed r ≡ true)
  some_by zero placed n few here waits = elim (cases_Bool (is_ready ps placed n)) [
    | inl ready ↦ (n, here, ready)
    | inr not_ready ↦ let m = behind_some placed n waits not_ready in let less = fewer_led placed n m.0 here m.1 in absurd (omega arith)
  ]
  some_by (suc k) placed n few here waits = by (is_ready ps placed n) refl (λ m less h i. some_by k placed m less h i)
    where
      by : (b : Bool) → is_ready ps placed n ≡ b → ((m : List ℕ) → led_by m ≤ k → IsProject ps m → is_among placed m ≡ false → (r : List ℕ) × IsProject ps r × (is_ready ps placed r ≡ true))
          → (r : List ℕ) × IsProject ps r × (is_ready ps placed r ≡ true)
      by true e next = (n, here, e)
      by false e next = let m = behind_some placed n waits e in let less = fewer_led placed n m.0 here m.1 in next m.0 (omega arith) m.1.project m.1.waits

  pub some_ready : (placed : Names) (n : List ℕ) → IsProject ps n → is_among placed n ≡ false → (r : List ℕ) × IsProject ps r × (is_ready ps placed r ≡ true)
  some_ready placed n here waits = some_by (led_by n) placed n (omega arith) here waits
