-- What listeners were told of a run, and what stays of builders.
use Rattle.std.proofs.Common.{◌≡◌, ℕ, List, [], ap, sym, ◌∙◌, subst, append-nil}
use Rattle.core_event.specs.declared.entry.Entry.{Entry}
use Rattle.ws_core.specs.States.{Moment}
use Rattle.ws_core.specs.Histories.{notices, told_of}
use Rattle.ws_core.proofs.Grown.{told_of_append}
use Rattle.save_parts.specs.Heard.{Heard, HeardMore}
use Rattle.phase_run.specs.Runs.{HeardAll, HeardFront}
use Rattle.phase_run.proofs.Heard.{heard_none}
use Rattle.ws_top.specs.Outcomes.{IsOneThread, HearsNotices}

-- nothing was done, and nothing told
pub hears_nothing : (opened : Moment) (n : ℕ) (h : List Entry) (old new : List Heard) → h ≡ [] → new ≡ old → HearsNotices opened n h old new
hears_nothing opened n h old new none same = record {
  all_else = λ _. subst (λ l. HeardMore (notices opened l) old new) (sym none) quiet;
  front_at_8 = λ _. ([], [], ap (notices opened) none, quiet);
}
  where
    quiet : HeardMore [] old new
    quiet = same ∙ heard_none old

-- all was told
pub hears_all : (opened : Moment) (n : ℕ) (d h : List Entry) (old new : List Heard) → IsOneThread opened h → h ≡ d → HeardAll d old new → HearsNotices opened n h old new
hears_all opened n d h old new thread same heard = record { all_else = λ _. told; front_at_8 = λ _. (notices opened h, [], sym (append-nil (notices opened h)), told) }
  where
    told : HeardMore (notices opened h) old new
    told = subst (λ l. HeardMore l old new) thread.told (subst (λ l. HeardMore (told_of l) old new) (sym same) heard)

-- as far as memory sufficed
pub hears_front : (opened : Moment) (n : ℕ) (d h : List Entry) (old new : List Heard) → n ≡ 8 → IsOneThread opened h → h ≡ d → HeardFront d old new → HearsNotices opened n h old new
hears_front opened n d h old new eight thread same heard = record {
  all_else = λ other. absurd (other eight);
  front_at_8 = λ _. (told_of heard.0, told_of heard.1, sym thread.told ∙ (ap told_of (same ∙ heard.2) ∙ told_of_append heard.0 heard.1), heard.3);
}
