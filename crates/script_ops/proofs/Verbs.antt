-- What stands behind a verb.
use Rattle.std.proofs.Common.{◌≡◌, ℕ, Bool, Option, List, [], ◌∷◌, map, drop, sym, ◌∙◌, ap, subst}
use Rattle.std.specs.Prelude.{codes}
use Rattle.std.specs.List.{flat_map}
use Rattle.std.specs.Str.{bytes_eq}
use Rattle.std.specs.Str.Parse.{digits_value}
use Rattle.mark_set.specs.declared.value.RawValue.{RawValue}
use Rattle.ws_elem.specs.declared.depth.Depth.{Depth}
use Rattle.res_path.specs.Paths.{Names}
use Rattle.op_kind.specs.declared.op.Op.{Op}
use Rattle.script_words.specs.declared.words.Token.{Token}
use Rattle.script_words.specs.Words.{Word}
use Rattle.script_parts.specs.Parts.{keyword, a_number, a_name, a_path, a_text, a_word, attribute_parts, depth_word, set_parts, switch_word, FitsPart, FitsParts}
use Rattle.script_parts.proofs.Paths.{path_at}
use Rattle.script_parts.proofs.Values.{nth, depth_at, attributes_at, change_at, fit_words, fit_all_named}
use Rattle.script_ops.specs.declared.verb.Verb.{Verb}
use Rattle.script_ops.specs.declared.verb.Verb.TheVariants as verbs
use Rattle.script_ops.specs.Operations.{operation_parts}
use Rattle.script_ops.specs.Inside.Verbs.{verb_word, begun_with}
use Rattle.script_ops.proofs.Coded.{created_at, operation_at, op_at, op_back}

abbrev words : List Token → List Word
words tokens = map (λ (t : Token). t.word) tokens

-- the operation that tokens stand for is known from their words
pub known_op : (tokens : List Token) (x : Op) → FitsParts tokens (operation_parts x) → x ≡ op_at (words tokens)
known_op tokens x h = sym (op_back x (fit_all_named tokens (operation_parts x) h)) ∙ ap op_at (sym (fit_words tokens (operation_parts x) h))

-- so the tokens behind a verb stand for the parts of that operation
known_parts : (verb : Verb) (rest : List Token) (x : Op) → FitsParts (begun_with verb rest) (operation_parts x)
    → FitsParts (begun_with verb rest) (operation_parts (operation_at (verb_word verb) (words rest)))
known_parts verb rest x h = subst (λ (x : Op). FitsParts (begun_with verb rest) (operation_parts x)) (known_op (begun_with verb rest) x h) h

pub no_deleted : (rest : List Token) → ((path : Names) → FitsParts rest (a_path path ∷ []) → ⊥) → (x : Op) → FitsParts (begun_with verbs.Delete rest) (operation_parts x) → ⊥
no_deleted rest none x h = none (path_at (nth 0 (words rest))) (known_parts verbs.Delete rest x h).1

pub no_touched : (rest : List Token) → ((path : Names) → FitsParts rest (a_path path ∷ []) → ⊥) → (x : Op) → FitsParts (begun_with verbs.Touch rest) (operation_parts x) → ⊥
no_touched rest none x h = none (path_at (nth 0 (words rest))) (known_parts verbs.Touch rest x h).1

pub no_opened : (rest : List Token) → ((path : Names) → FitsParts rest (a_path path ∷ []) → ⊥) → (x : Op) → FitsParts (begun_with verbs.Open rest) (operation_parts x) → ⊥
no_opened rest none x h = none (path_at (nth 0 (words rest))) (known_parts verbs.Open rest x h).1

pub no_closed : (rest : List Token) → ((path : Names) → FitsParts rest (a_path path ∷ []) → ⊥) → (x : Op) → FitsParts (begun_with verbs.Close rest) (operation_parts x) → ⊥
no_closed rest none x h = none (path_at (nth 0 (words rest))) (known_parts verbs.Close rest x h).1

pub no_forgotten : (rest : List Token) → ((path : Names) → FitsParts rest (a_path path ∷ []) → ⊥) → (x : Op) → FitsParts (begun_with verbs.Forget rest) (operation_parts x) → ⊥
no_forgotten rest none x h = none (path_at (nth 0 (words rest))) (known_parts verbs.Forget rest x h).1

pub no_shown : (rest : List Token) → ((path : Names) → FitsParts rest (a_path path ∷ []) → ⊥) → (x : Op) → FitsParts (begun_with verbs.Show rest) (operation_parts x) → ⊥
no_shown rest none x h = none (path_at (nth 0 (words rest))) (known_parts verbs.Show rest x h).1

pub no_told : (rest : List Token) → ((path : Names) → FitsParts rest (a_path path ∷ []) → ⊥) → (x : Op) → FitsParts (begun_with verbs.Cat rest) (operation_parts x) → ⊥
no_told rest none x h = none (path_at (nth 0 (words rest))) (known_parts verbs.Cat rest x h).1

pub no_listed : (rest : List Token) → ((path : Names) → FitsParts rest (a_path path ∷ []) → ⊥) → (x : Op) → FitsParts (begun_with verbs.Tree rest) (operation_parts x) → ⊥
no_listed rest none x h = none (path_at (nth 0 (words rest))) (known_parts verbs.Tree rest x h).1

pub no_digested : (rest : List Token) → ((path : Names) → FitsParts rest (a_path path ∷ []) → ⊥) → (x : Op) → FitsParts (begun_with verbs.Digest rest) (operation_parts x) → ⊥
no_digested rest none x h = none (path_at (nth 0 (words rest))) (known_parts verbs.Digest rest x h).1

pub no_written : (rest : List Token) → ((path : Names) (bytes : Word) → FitsParts rest (a_path path ∷ a_word bytes ∷ []) → ⊥) → (x : Op) → FitsParts (begun_with verbs.Write rest) (operation_parts x) → ⊥
no_written rest none x h = none (path_at (nth 0 (words rest))) (nth 1 (words rest)) (known_parts verbs.Write rest x h).1

pub no_described : (rest : List Token) → ((path : Names) (bytes : Word) → FitsParts rest (a_path path ∷ a_word bytes ∷ []) → ⊥) → (x : Op) → FitsParts (begun_with verbs.Describe rest) (operation_parts x) → ⊥
no_described rest none x h = none (path_at (nth 0 (words rest))) (nth 1 (words rest)) (known_parts verbs.Describe rest x h).1

pub no_moved : (rest : List Token) → ((path to : Names) → FitsParts rest (a_path path ∷ a_path to ∷ []) → ⊥) → (x : Op) → FitsParts (begun_with verbs.Move rest) (operation_parts x) → ⊥
no_moved rest none x h = none (path_at (nth 0 (words rest))) (path_at (nth 1 (words rest))) (known_parts verbs.Move rest x h).1

pub no_copied : (rest : List Token) → ((path to : Names) → FitsParts rest (a_path path ∷ a_path to ∷ []) → ⊥) → (x : Op) → FitsParts (begun_with verbs.Copy rest) (operation_parts x) → ⊥
no_copied rest none x h = none (path_at (nth 0 (words rest))) (path_at (nth 1 (words rest))) (known_parts verbs.Copy rest x h).1

pub no_derived : (rest : List Token) → ((path : Names) (on : Bool) → FitsParts rest (a_path path ∷ keyword (switch_word on) ∷ []) → ⊥) → (x : Op) → FitsParts (begun_with verbs.Derived rest) (operation_parts x) → ⊥
no_derived rest none x h = none (path_at (nth 0 (words rest))) (bytes_eq (nth 1 (words rest)) (codes "on")) (known_parts verbs.Derived rest x h).1

pub no_marked : (rest : List Token) → ((path : Names) (kind : List ℕ) (attributes : List (List ℕ × RawValue)) → FitsParts rest (a_path path ∷ a_text kind ∷ flat_map attribute_parts attributes) → ⊥) → (x : Op) → FitsParts (begun_with verbs.Mark rest) (operation_parts x) → ⊥
no_marked rest none x h = none (path_at (nth 0 (words rest))) (nth 1 (words rest)) (attributes_at (drop 2 (words rest))) (known_parts verbs.Mark rest x h).1

pub no_set : (rest : List Token) → ((path : Names) (id : ℕ) (change : List ℕ × Option RawValue) → FitsParts rest (a_path path ∷ a_number 64 0 id ∷ a_text change.0 ∷ set_parts change.1) → ⊥) → (x : Op) → FitsParts (begun_with verbs.Attr rest) (operation_parts x) → ⊥
no_set rest none x h = none (path_at (nth 0 (words rest))) (digits_value 10 (nth 1 (words rest))) (nth 2 (words rest), change_at (drop 3 (words rest))) (known_parts verbs.Attr rest x h).1

pub no_unmarked : (rest : List Token) → ((path : Names) (id : ℕ) → FitsParts rest (a_path path ∷ a_number 64 0 id ∷ []) → ⊥) → (x : Op) → FitsParts (begun_with verbs.Unmark rest) (operation_parts x) → ⊥
no_unmarked rest none x h = none (path_at (nth 0 (words rest))) (digits_value 10 (nth 1 (words rest))) (known_parts verbs.Unmark rest x h).1

pub no_cleared : (rest : List Token) → ((path : Names) (kind : List ℕ) (depth : Depth) → FitsParts rest (a_path path ∷ a_text kind ∷ keyword (depth_word depth) ∷ []) → ⊥) → (x : Op) → FitsParts (begun_with verbs.ClearMarks rest) (operation_parts x) → ⊥
no_cleared rest none x h = none (path_at (nth 0 (words rest))) (nth 1 (words rest)) (depth_at (nth 2 (words rest))) (known_parts verbs.ClearMarks rest x h).1

pub no_registered : (rest : List Token) → ((name : List ℕ) → FitsParts rest (a_name name ∷ []) → ⊥) → (x : Op) → FitsParts (begun_with verbs.Partner rest) (operation_parts x) → ⊥
no_registered rest none x h = none (nth 0 (words rest)) (known_parts verbs.Partner rest x h).1

pub no_synchronised : (rest : List Token) → ((path : Names) (name : List ℕ) (bytes : Word) → FitsParts rest (a_path path ∷ a_name name ∷ a_word bytes ∷ []) → ⊥) → (x : Op) → FitsParts (begun_with verbs.Sync rest) (operation_parts x) → ⊥
no_synchronised rest none x h = none (path_at (nth 0 (words rest))) (nth 1 (words rest)) (nth 2 (words rest)) (known_parts verbs.Sync rest x h).1

pub no_unsynchronised : (rest : List Token) → ((path : Names) (name : List ℕ) → FitsParts rest (a_path path ∷ a_name name ∷ []) → ⊥) → (x : Op) → FitsParts (begun_with verbs.NoSync rest) (operation_parts x) → ⊥
no_unsynchronised rest none x h = none (path_at (nth 0 (words rest))) (nth 1 (words rest)) (known_parts verbs.NoSync rest x h).1

pub no_flushed : (rest : List Token) → ((path : Names) (name : List ℕ) (depth : Depth) → FitsParts rest (a_path path ∷ a_name name ∷ keyword (depth_word depth) ∷ []) → ⊥) → (x : Op) → FitsParts (begun_with verbs.Flush rest) (operation_parts x) → ⊥
no_flushed rest none x h = none (path_at (nth 0 (words rest))) (nth 1 (words rest)) (depth_at (nth 2 (words rest))) (known_parts verbs.Flush rest x h).1

-- ---- what is created

abbrev created : Token → List Token → Op → Type 0
created kind rest x = FitsParts (begun_with verbs.Create (kind ∷ rest)) (operation_parts x)

-- where the kind's word is this one
known_kind : (kind : Token) (rest : List Token) (word : Word) → kind.word ≡ word → (x : Op) → created kind rest x → created kind rest (created_at (word ∷ words rest))
known_kind kind rest word e x h = subst (created kind rest) (ap (λ (word : Word). created_at (word ∷ words rest)) e) (known_parts verbs.Create (kind ∷ rest) x h)

pub no_project : (kind : Token) (rest : List Token) → FitsPart kind (keyword (codes "project")) → ((path : Names) → FitsParts rest (a_path path ∷ []) → ⊥) → (x : Op) → created kind rest x → ⊥
no_project kind rest k none x h = none (path_at (nth 0 (words rest))) (known_kind kind rest (codes "project") k.1 x h).1.1

pub no_folder : (kind : Token) (rest : List Token) → FitsPart kind (keyword (codes "folder")) → ((path : Names) → FitsParts rest (a_path path ∷ []) → ⊥) → (x : Op) → created kind rest x → ⊥
no_folder kind rest k none x h = none (path_at (nth 0 (words rest))) (known_kind kind rest (codes "folder") k.1 x h).1.1

pub no_file : (kind : Token) (rest : List Token) → FitsPart kind (keyword (codes "file")) → ((path : Names) (bytes : Word) → FitsParts rest (a_path path ∷ a_word bytes ∷ []) → ⊥) → (x : Op) → created kind rest x → ⊥
no_file kind rest k none x h = none (path_at (nth 0 (words rest))) (nth 1 (words rest)) (known_kind kind rest (codes "file") k.1 x h).1.1
