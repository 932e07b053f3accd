-- The book of a build goes on over entries of others.
use Rattle.std.proofs.Common.{◌≡◌, ◌≢◌, ◌≤◌, ◌==◌, ℕ, Bool, true, false, not, eqb-true, List, [], ◌∷◌, ◌++◌, length, take, drop, refl, sym, ap, ◌∙◌, append-nil}
use Rattle.std.specs.Prelude.{Option, Some, None}
use Rattle.std.specs.List.{list_any}
use Rattle.std.specs.Option.{option_map}
use Rattle.std.specs.Str.{bytes_eq}
use Rattle.builder_api.specs.declared.edits.Edits.{Edits}
use Rattle.builder_api.specs.declared.kind.BuildKind.{BuildKind}
use Rattle.builder_api.specs.Told.{Told}
use Rattle.build_laws.specs.States.{Finds, Item, State}
use Rattle.build_run.specs.declared.answers.Given.{Given}
use Rattle.build_run.specs.declared.answers.Given.TheVariants as given
use Rattle.build_run.specs.declared.answers.Taken.{Taken}
use Rattle.build_run.specs.declared.answers.Taken.TheVariants as taken
use Rattle.build_run.specs.Books.{Book, Cleans, Hands, Takes}
use Rattle.core_event.specs.declared.entry.Entry.{Entry}
use Rattle.pass_table.specs.Passes.{serves}
use Rattle.service_desk.specs.Desks.{is_building}
use Rattle.ws_core.specs.States.{Moment}
use Rattle.ws_core.specs.Histories.{after, replay}
use Rattle.ws_core.proofs.ServingPass.{serves_named, serving_named}
use Rattle.ws_turn.specs.Lists.{of}
use Rattle.pass_turns.proofs.There.{others}
use Rattle.build_core.specs.States.{item_of, state_of}
use Rattle.build_core.specs.Histories.{entries_of, may_build}
use Rattle.build_core.proofs.Entered.{entries_append, others_add_none}
use Rattle.build_host.proofs.Handing.{it_serves}
use Rattle.build_host.proofs.Lists.{drop_front, take_front}
use Rattle.build_beside.specs.Turns.{pass_of}
use Rattle.build_beside.specs.Beside.{book_in}
use Rattle.build_beside.proofs.Others.{Keeps}

-- ---- others add nothing

differs : (j n : ℕ) → j ≢ n → (j == n) ≡ false
differs j n other = by (j == n) refl
  where
    by : (b : Bool) → (j == n) ≡ b → b ≡ false
    by true is = absurd (other (eqb-true j n is))
    by false is = refl

pub entries_none : (n : ℕ) (s : Moment) (m : List Entry) → of pass_of n m ≡ [] → entries_of n s m ≡ []
entries_none n s [] none = refl
entries_none n s (x ∷ m) none =
    let o = others pass_of n x m none in
    (λ i. others_add_none n s x (differs x.pass n o.0) i ++ entries_none n (after s x) m o.1 i)

pub mine_aside : (n : ℕ) (s : Moment) (h m : List Entry) → of pass_of n m ≡ [] → entries_of n s (h ++ m) ≡ entries_of n s h
mine_aside n s h m none = entries_append n s h m ∙ (ap (λ z. entries_of n s h ++ z) (entries_none n (replay s h) m none) ∙ append-nil (entries_of n s h))

pub since_aside : (n start : ℕ) (s : Moment) (h m : List Entry) → start ≤ length h → of pass_of n m ≡ []
    → entries_of n (replay s (take start (h ++ m))) (drop start (h ++ m)) ≡ entries_of n (replay s (take start h)) (drop start h)
since_aside n start s h m le none =
    (λ i. entries_of n (replay s (take_front start h m le i)) (drop_front start h m le i))
    ∙ mine_aside n (replay s (take start h)) (drop start h) m none

pub has_them : (s : Moment) (n : ℕ) → may_build s n ≡ true → serves s.manager.passes n ≡ true
has_them s n may = serves_named s.manager.passes n (serving_named s.manager.passes (is_building s.desk.serving) n (it_serves s n may))

pub not_home : (s : Moment) (n : ℕ) → may_build s n ≡ true → not (serves s.manager.passes n) ≡ false
not_home s n may = ap not (has_them s n may)

-- of a pass that may build the book has but another state
pub book_aside : (s : Moment) (n start : ℕ) (began told : List Told) (h m : List Entry) → start ≤ length h → of pass_of n m ≡ [] → may_build (replay s h) n ≡ true → Keeps n (replay s h) (replay s (h ++ m))
    → book_in s n start began told (h ++ m) ≡ record (book_in s n start began told h) { now = state_of (replay s (h ++ m)) }
book_aside s n start began told h m le none may keeps = λ i. record {
  mine = mine_aside n s h m none i;
  since = since_aside n start s h m le none i;
  began = began;
  told = told;
  now = state_of (replay s (h ++ m));
  serving = (keeps.may ∙ sym may) i;
  home = (not_home (replay s (h ++ m)) n keeps.may ∙ sym (not_home (replay s h) n may)) i;
  has = λ name. list_any (bytes_eq name) (keeps.names i);
  under = option_map item_of (keeps.under i);
}

-- ---- what is found is what was left, but for markers

pub finds_on : (a b c : State) → Finds a b → Finds b c → Finds a c
finds_on a b c p q = record { alike = λ r. q.alike r ∙ p.alike r; records = q.records ∙ p.records; descs = q.descs ∙ p.descs }

pub hands_from : (b : Book) (t : State) (c : Book) (i : Item) (kind : BuildKind) (g : Given) → Finds b.now t → Hands (record b { now = t }) i kind g c → Hands b i kind g c
hands_from b t c i kind (given.Due h) f x = record { found = x.found; finds = finds_on b.now t x.found f x.finds; given = x.given; book = x.book }
hands_from b t c i kind (given.Refused n) f x = record { found = x.found; finds = finds_on b.now t x.found f x.finds; given = x.given; book = x.book }

pub takes_from : (b : Book) (t : State) (c : Book) (i : Item) (e : Edits) (a : Taken) → Finds b.now t → Takes (record b { now = t }) i e a c → Takes b i e a c
takes_from b t c i e (taken.Committed touched problems) f x = (x.0, x.1, finds_on b.now t x.0 f x.2, x.3, x.4)
takes_from b t c i e (taken.Refused n) f x = (x.0, finds_on b.now t x.0 f x.1, x.2)

pub cleans_from : (b : Book) (t : State) (c : Book) (i : Item) (n : Option ℕ) → Finds b.now t → Cleans (record b { now = t }) i n c → Cleans b i n c
cleans_from b t c i None f x = (x.0, x.1, finds_on b.now t x.0 f x.2, x.3, x.4, x.5, x.6)
cleans_from b t c i (Some n) f x = (x.0, finds_on b.now t x.0 f x.1, x.2, x.3, x.4)

-- ---- whose the services are makes no difference

pub hands_home : (v : Bool) (b c : Book) (i : Item) (kind : BuildKind) (g : Given) → Hands b i kind g c → Hands (record b { home = v }) i kind g (record c { home = v })
hands_home v b c i kind (given.Due h) x = record { found = x.found; finds = x.finds; given = x.given; book = ap (λ (z : Book). record z { home = v }) x.book }
hands_home v b c i kind (given.Refused n) x = record { found = x.found; finds = x.finds; given = x.given; book = ap (λ (z : Book). record z { home = v }) x.book }

pub takes_home : (v : Bool) (b c : Book) (i : Item) (e : Edits) (a : Taken) → Takes b i e a c → Takes (record b { home = v }) i e a (record c { home = v })
takes_home v b c i e (taken.Committed touched problems) x = (x.0, x.1, x.2, x.3, ap (λ (z : Book). record z { home = v }) x.4)
takes_home v b c i e (taken.Refused n) x = (x.0, x.1, ap (λ (z : Book). record z { home = v }) x.2)

pub cleans_home : (v : Bool) (b c : Book) (i : Item) (n : Option ℕ) → Cleans b i n c → Cleans (record b { home = v }) i n (record c { home = v })
cleans_home v b c i None x = (x.0, x.1, x.2, x.3, x.4, x.5, ap (λ (z : Book). record z { home = v }) x.6)
cleans_home v b c i (Some n) x = (x.0, x.1, x.2, x.3, ap (λ (z : Book). record z { home = v }) x.4)

-- ---- whether the pass may build stays

pub hands_serving : (b c : Book) (i : Item) (kind : BuildKind) (g : Given) → Hands b i kind g c → c.serving ≡ b.serving
hands_serving b c i kind (given.Due h) x = ap (λ (z : Book). z.serving) x.book
hands_serving b c i kind (given.Refused n) x = ap (λ (z : Book). z.serving) x.book

pub takes_serving : (b c : Book) (i : Item) (e : Edits) (a : Taken) → Takes b i e a c → c.serving ≡ b.serving
takes_serving b c i e (taken.Committed touched problems) x = ap (λ (z : Book). z.serving) x.4
takes_serving b c i e (taken.Refused n) x = ap (λ (z : Book). z.serving) x.2

pub cleans_serving : (b c : Book) (i : Item) (n : Option ℕ) → Cleans b i n c → c.serving ≡ b.serving
cleans_serving b c i None x = ap (λ (z : Book). z.serving) x.6
cleans_serving b c i (Some n) x = ap (λ (z : Book). z.serving) x.4
