-- The rounds of a knot.
use Rattle.std.proofs.Common.{◌≡◌, inl, ℕ, ◌+◌, ◌<◌, ◌≤◌, true, false, List, [], ◌∷◌, ◌++◌, length, refl, sym, ap, ◌∙◌, subst, arith, append_assoc, append-nil, length-append}
use Rattle.std.specs.List.{flat_map}
use Rattle.res_path.specs.Paths.{Names}
use Rattle.builder_api.specs.declared.kind.BuildKind.{BuildKind}
use Rattle.builder_api.specs.declared.outcome.BuildOutcome.{BuildOutcome}
use Rattle.builder_api.specs.Meanings.{Meanings}
use Rattle.build_laws.specs.States.{Item}
use Rattle.build_laws.specs.Turns.{Turn}
use Rattle.build_laws.specs.Builds.{Untouched, IsRound, later, kind_after, Settles, Stirs, KnotBuilt}
use Rattle.build_run.specs.Books.{Book, Ran}
use Rattle.build_run.specs.Ends.{RoundHalts, RoundCame, KnotHalts}
use Rattle.build_run.proofs.Runs.{ran_none, ran_more}

abbrev flat : List (List Turn) → List Turn
flat rs = flat_map (λ r. r) rs

flat_more : (rs : List (List Turn)) (r : List Turn) → flat rs ++ r ≡ flat (rs ++ r ∷ [])
flat_more [] r = sym (append-nil r)
flat_more (q ∷ rs) r = append_assoc q (flat rs) r ∙ ap (λ x. q ++ x) (flat_more rs r)

settled : (kind : BuildKind) (is : List Item) (rs : List (List Turn)) (r : List Turn) → Stirs kind is rs → IsRound (kind_after kind rs) is r → Untouched r → Settles kind is (rs ++ r ∷ [])
settled kind is [] r h round none = (round, none)
settled kind is (p ∷ []) r h round none = (h.0, h.1, (round, none))
settled kind is (p ∷ q ∷ rs) r h round none = (h.0, h.1, settled (later kind) is (q ∷ rs) r h.2 round none)

stirs_more : (kind : BuildKind) (is : List Item) (rs : List (List Turn)) (r : List Turn) → Stirs kind is rs → IsRound (kind_after kind rs) is r → ¬ (Untouched r) → Stirs kind is (rs ++ r ∷ [])
stirs_more kind is [] r h round some = (round, some, tt)
stirs_more kind is (p ∷ rs) r h round some = (h.0, h.1, stirs_more (later kind) is rs r h.2 round some)

later_more : (kind : BuildKind) (rs : List (List Turn)) (r : List Turn) → later (kind_after kind rs) ≡ kind_after kind (rs ++ r ∷ [])
later_more kind [] r = refl
later_more kind (q ∷ rs) r = later_more (later kind) rs r

length_more : (rs : List (List Turn)) (r : List Turn) → length (rs ++ r ∷ []) ≡ length rs + 1
length_more rs r = length-append rs (r ∷ [])

-- after n rounds that each touched a file, the next asks for a kind
pub record Stirred (ms : Meanings) (b : Book) (kind : BuildKind) (is : List Item) (n : ℕ) (asked : BuildKind) (b' : Book) : Type 0 where
  pub rounds : List (List Turn)
  pub ran : Ran ms b b' (flat_map (λ r. r) rounds)
  pub stirs : Stirs kind is rounds
  pub many : length rounds ≡ n
  pub next : asked ≡ kind_after kind rounds

pub none_stirred : (ms : Meanings) (b : Book) (kind : BuildKind) (is : List Item) → Stirred ms b kind is 0 kind b
none_stirred ms b kind is = record { rounds = []; ran = ran_none ms b; stirs = tt; many = refl; next = refl }

round_as : (kind asked : BuildKind) (is : List Item) (rs : List (List Turn)) (r : List Turn) → asked ≡ kind_after kind rs → IsRound asked is r → IsRound (kind_after kind rs) is r
round_as kind asked is rs r f round = subst (λ k. IsRound k is r) f round

pub knot_settled : (ms : Meanings) (b b' b'' : Book) (kind asked : BuildKind) (is : List Item) (n : ℕ) → Stirred ms b kind is n asked b' → n < 10 → RoundCame ms b' asked is false b''
    → (xs : List Turn) × Ran ms b b'' xs × KnotBuilt kind is xs
knot_settled ms b b' b'' kind asked is n p below q = (
  flat_map (λ r. r) p.rounds ++ q.turns,
  ran_more ms b b' b'' (flat_map (λ r. r) p.rounds) q.turns p.ran q.ran,
  record {
    rounds = p.rounds ++ q.turns ∷ [];
    are = flat_more p.rounds q.turns;
    few = subst (λ m. m ≤ 10) (sym (length_more p.rounds q.turns)) (let e = p.many in omega arith);
    settles = settled kind is p.rounds q.turns p.stirs (round_as kind asked is p.rounds q.turns p.next q.round) q.stirred;
  },
)

pub knot_goes_on : (ms : Meanings) (b b' b'' : Book) (kind asked : BuildKind) (is : List Item) (n : ℕ) → Stirred ms b kind is n asked b' → RoundCame ms b' asked is true b''
    → Stirred ms b kind is (n + 1) (later asked) b''
knot_goes_on ms b b' b'' kind asked is n p q = record {
  rounds = p.rounds ++ q.turns ∷ [];
  ran = subst (Ran ms b b'') (flat_more p.rounds q.turns) (ran_more ms b b' b'' (flat_map (λ r. r) p.rounds) q.turns p.ran q.ran);
  stirs = stirs_more kind is p.rounds q.turns p.stirs (round_as kind asked is p.rounds q.turns p.next q.round) q.stirred;
  many = length_more p.rounds q.turns ∙ ap (λ m. m + 1) p.many;
  next = ap later p.next ∙ later_more kind p.rounds q.turns;
}

pub knot_halts : (ms : Meanings) (b b' b'' : Book) (kind asked : BuildKind) (is : List Item) (names : Names) (n : ℕ) (o : BuildOutcome) → Stirred ms b kind is n asked b' → n < 10
    → RoundHalts ms b' asked is o b'' → KnotHalts ms b kind is names o b''
knot_halts ms b b' b'' kind asked is names n o p below halted = record {
  rounds = p.rounds;
  book = b';
  stirs = p.stirs;
  ran = p.ran;
  ends = inl ((let e = p.many in omega arith), subst (λ k. RoundHalts ms b' k is o b'') p.next halted);
}
