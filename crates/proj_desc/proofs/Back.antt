-- The text of a description is read back as that description.
use Rattle.std.proofs.Common.{◌≡◌, ℕ, ◌≤◌, Bool, true, false, not, ◌&&◌, ◌||◌, nat_le, nat_lt, List, [], ◌∷◌, ◌++◌, map, length, drop, Option, Some, None, refl, sym, ap, ◌∙◌, arith, append-nil, cond}
use Rattle.std.specs.Prelude.{IsUtf8, codes, option_map, Result, Ok, Err, IfOk}
use Rattle.std.specs.Option.{option_or}
use Rattle.std.specs.List.{list_all, slice_split, onto_first, flat_map}
use Rattle.std.proofs.lemmas.List.Splits.{slice_split-cons_no}
use Rattle.serde_json.specs.Data.{Data, string, depth, items_depth}
use Rattle.serde_json.specs.Read.{read, max_depth}
use Rattle.serde_json.specs.View.{items_of}
use Rattle.serde_json.specs.Written.{has_float, items_have_float}
use Rattle.res_path.specs.Names.{is_name, is_name_byte}
use Rattle.res_path.specs.Paths.{Names, slashed, path_text}
use Rattle.res_path.specs.Parts.{is_slash, parts_of}
use Rattle.res_path.proofs.Spelled.{both, no_slash, form_bytes}
use Rattle.proj_desc.specs.declared.input.Input.{Input}
use Rattle.proj_desc.specs.declared.input.Input.TheVariants.{Own, Other}
use Rattle.proj_desc.specs.declared.command.Command.{Command}
use Rattle.proj_desc.specs.declared.desc.Desc.{Desc}
use Rattle.proj_desc.specs.declared.cause.DescCause.TheVariants.{BadPath}
use Rattle.proj_desc.specs.declared.member.Level.TheVariants as level
use Rattle.proj_desc.specs.Values.{value_of, is_text, is_object, is_list_of_texts, list_of, text}
use Rattle.proj_desc.specs.Described.{names, begins_with_slash, input_of, command_of, desc_of}
use Rattle.proj_desc.specs.Canonical.{inner_text, input_text, command_data, desc_data, described}
use Rattle.proj_desc.specs.Causes.{others, has, shape_cause, is_path, is_inside, is_placed, has_places, word_cause, link_cause, rule_cause, read_cause, desc_cause}
use Rattle.proj_desc.specs.FirstCause.{when}
use Rattle.proj_desc.proofs.Values.{value_read}
use Rattle.proj_desc.proofs.Paths.{within}

-- ---- what a valid description keeps

pub second_none : {C : Type 0} (o p : Option C) → option_or o p ≡ None → p ≡ None
second_none None p e = e
second_none (Some c) p e = cc

pub first_none : {C : Type 0} (o p : Option C) → option_or o p ≡ None → o ≡ None
first_none None p e = refl
first_none (Some c) p e = cc

kept : (project : List ℕ) (o : Option Data) (d : Desc) → read_cause project o ≡ None → option_map desc_of o ≡ Some d → rule_cause project d ≡ None
kept project None d e f = cc
kept project (Some v) d e f =
    let same : desc_of v ≡ d = cc in
    sym (ap (rule_cause project) same) ∙ second_none (shape_cause v) (rule_cause project (desc_of v)) e

pub described_keeps : (project text : List ℕ) (d : Desc) → desc_cause project text ≡ None → described text ≡ Some d → rule_cause project d ≡ None
described_keeps project text d e f = kept project (value_of text) d e f

pub applied : {C : Type 0} (b : Bool) (c : C) → when (not b) c ≡ None → b ≡ true
applied true c e = refl
applied false c e = cc

placed : (project : List ℕ) (d : Desc) → rule_cause project d ≡ None → list_all (has_places project) d.commands ≡ true
placed project d e =
    let words = first_none (word_cause project d) (link_cause project d) e in
    applied (list_all (has_places project) d.commands) BadPath (first_none _ _ (second_none _ _ (second_none _ _ words)))

-- ---- names out of a path's text

split_after : (name rest : List ℕ) → list_all is_name_byte name ≡ true → slice_split is_slash (name ++ 47 ∷ rest) ≡ name ∷ slice_split is_slash rest
split_after [] rest h = refl
split_after (b ∷ bs) rest h =
    let parts = both (is_name_byte b) (list_all is_name_byte bs) h in
    slice_split-cons_no is_slash b (bs ++ 47 ∷ rest) (no_slash b parts.0) ∙ ap (onto_first b) (split_after bs rest parts.1)

split_last : (name : List ℕ) → list_all is_name_byte name ≡ true → slice_split is_slash name ≡ name ∷ []
split_last [] h = refl
split_last (b ∷ bs) h =
    let parts = both (is_name_byte b) (list_all is_name_byte bs) h in
    slice_split-cons_no is_slash b bs (no_slash b parts.0) ∙ ap (onto_first b) (split_last bs parts.1)

parts_back : (p : Names) → list_all is_name p ≡ true → parts_of (slashed p) ≡ p
parts_back [] h = refl
parts_back (name ∷ []) h =
    let parts = both (is_name name) true h in ap (slice_split is_slash) (append-nil name) ∙ split_last name (form_bytes name parts.0)
parts_back (name ∷ other ∷ p) h =
    let parts = both (is_name name) (list_all is_name (other ∷ p)) h in
    split_after name (other ++ slashed p) (form_bytes name parts.0) ∙ ap (λ names. name ∷ names) (parts_back (other ∷ p) parts.1)

path_names : (p : Names) → is_path p ≡ true → list_all is_name p ≡ true
path_names p h = (both (list_all is_name p) (nat_le (length p) 64) (both (list_all is_name p && nat_le (length p) 64) (nat_le (length (path_text p)) 4096) h).0).0

inner_names : (p : Names) → nat_lt 0 (length p) ≡ true → is_path p ≡ true → names (inner_text p) ≡ p
inner_names [] s h = cc
inner_names (name ∷ p) s h = parts_back (name ∷ p) (path_names (name ∷ p) h)

begins_plain : (p : Names) → nat_lt 0 (length p) ≡ true → is_path p ≡ true → begins_with_slash (inner_text p) ≡ false
begins_plain [] s h = cc
begins_plain ([] ∷ p) s h = cc
begins_plain ((b ∷ bs) ∷ p) s h =
    let named = both (is_name (b ∷ bs)) (list_all is_name p) (path_names ((b ∷ bs) ∷ p) h) in
    no_slash b (both (is_name_byte b) (list_all is_name_byte bs) (form_bytes (b ∷ bs) named.0)).0

-- ---- the parts of a description

input_back : (project : List ℕ) (i : Input) → is_placed project i ≡ true → input_of (input_text i) ≡ i
input_back project (Own p) h =
    let parts = both (nat_lt 0 (length p)) (is_path (project ∷ p)) h in
    let path = within project p parts.1 in
    ap (λ b. cond b (Other (names (drop 1 (inner_text p)))) (Own (names (inner_text p)))) (begins_plain p parts.0 path) ∙ ap Own (inner_names p parts.0 path)
input_back project (Other []) h = cc
input_back project (Other (name ∷ p)) h =
    let parts = both (nat_lt 0 (length (name ∷ p))) (is_path (name ∷ p)) h in ap Other (inner_names (name ∷ p) parts.0 parts.1)

inputs_back : (project : List ℕ) (is : List Input) → list_all (is_placed project) is ≡ true
    → map (λ v. input_of (text v)) (list_of (items_of (map string (map input_text is)))) ≡ is
inputs_back project [] h = refl
inputs_back project (i ∷ is) h =
    let parts = both (is_placed project i) (list_all (is_placed project) is) h in
    λ k. input_back project i parts.0 k ∷ inputs_back project is parts.1 k

pub command_back : (project : List ℕ) (c : Command) → has_places project c ≡ true → command_of (command_data c) ≡ c
command_back project c h =
    let parts = both (list_all (is_placed project) c.inputs) (is_inside project c.output) h in
    let out = both (nat_lt 0 (length c.output)) (is_path (project ∷ c.output)) parts.1 in
    let inputs = inputs_back project c.inputs parts.0 in
    let output = inner_names c.output out.0 (within project c.output out.1) in
    λ k. record { builder = c.builder; inputs = inputs k; output = output k }

commands_back : (project : List ℕ) (cs : List Command) → list_all (has_places project) cs ≡ true → map command_of (list_of (items_of (map command_data cs))) ≡ cs
commands_back project [] h = refl
commands_back project (c ∷ cs) h =
    let parts = both (has_places project c) (list_all (has_places project) cs) h in
    λ k. command_back project c parts.0 k ∷ commands_back project cs parts.1 k

references_back : (rs : List (List ℕ)) → map text (list_of (items_of (map string rs))) ≡ rs
references_back [] = refl
references_back (r ∷ rs) = ap (λ rest. r ∷ rest) (references_back rs)

desc_back : (project : List ℕ) (d : Desc) → rule_cause project d ≡ None → desc_of (desc_data d) ≡ d
desc_back project d e =
    let references = references_back d.references in
    let commands = commands_back project d.commands (placed project d e) in
    λ k. record { references = references k; commands = commands k }

-- ---- the shape

all_texts : (ts : List (List ℕ)) → list_all is_text (list_of (items_of (map string ts))) ≡ true
all_texts [] = refl
all_texts (t ∷ ts) = all_texts ts

all_objects : (cs : List Command) → list_all is_object (list_of (items_of (map command_data cs))) ≡ true
all_objects [] = refl
all_objects (c ∷ cs) = all_objects cs

no_strangers : (cs : List Command) → flat_map (others level.Command) (list_of (items_of (map command_data cs))) ≡ []
no_strangers [] = refl
no_strangers (c ∷ cs) = no_strangers cs

have_builder : (cs : List Command) → list_all (has is_text (codes "builder")) (list_of (items_of (map command_data cs))) ≡ true
have_builder [] = refl
have_builder (c ∷ cs) = have_builder cs

have_inputs : (cs : List Command) → list_all (has is_list_of_texts (codes "inputs")) (list_of (items_of (map command_data cs))) ≡ true
have_inputs [] = refl
have_inputs (c ∷ cs) = λ k. all_texts (map input_text c.inputs) k && have_inputs cs k

have_output : (cs : List Command) → list_all (has is_text (codes "output")) (list_of (items_of (map command_data cs))) ≡ true
have_output [] = refl
have_output (c ∷ cs) = have_output cs

shaped : (d : Desc) → shape_cause (desc_data d) ≡ None
shaped d =
    rw (all_objects d.commands, no_strangers d.commands, have_builder d.commands, have_inputs d.commands, have_output d.commands, all_texts d.references) refl

pub read_back : (project bytes : List ℕ) (d : Desc) → IsUtf8 bytes → read bytes ≡ Some (desc_data d) → rule_cause project d ≡ None
    → (desc_cause project bytes ≡ None) × (described bytes ≡ Some d)
read_back project bytes d u r e =
    let value = value_read bytes (desc_data d) u r in
    let back = desc_back project d e in (
      ap (read_cause project) value ∙ ap (λ o. option_or o (rule_cause project (desc_of (desc_data d)))) (shaped d) ∙ ap (rule_cause project) back ∙ e,
      ap (option_map desc_of) value ∙ ap Some back,
    )

-- ---- no floats, and no depth

pub texts_floatless : (ts : List (List ℕ)) → items_have_float (items_of (map string ts)) ≡ false
texts_floatless [] = refl
texts_floatless (t ∷ ts) = texts_floatless ts

commands_floatless : (cs : List Command) → items_have_float (items_of (map command_data cs)) ≡ false
commands_floatless [] = refl
commands_floatless (c ∷ cs) = λ k. (texts_floatless (map input_text c.inputs) k || false) || commands_floatless cs k

pub floatless : (d : Desc) → has_float (desc_data d) ≡ false
floatless d = λ k. commands_floatless d.commands k || (texts_floatless d.references k || false)

texts_depth : (ts : List (List ℕ)) → items_depth (items_of (map string ts)) ≤ 0
texts_depth [] = omega arith
texts_depth (t ∷ ts) = let rest = texts_depth ts in omega arith

pub command_depth : (c : Command) → depth (command_data c) ≤ 2
command_depth c = let inputs = texts_depth (map input_text c.inputs) in omega arith

commands_depth : (cs : List Command) → items_depth (items_of (map command_data cs)) ≤ 2
commands_depth [] = omega arith
commands_depth (c ∷ cs) = let first = command_depth c in let rest = commands_depth cs in omega arith

pub shallow : (d : Desc) → depth (desc_data d) ≤ max_depth
shallow d = let commands = commands_depth d.commands in let references = texts_depth d.references in omega arith

-- what follows from two facts on an `Ok`
pub if_both : {T E : Type 0} (r : Result T E) (P Q R : T → Type 0) → ((x : T) → P x → Q x → R x) → IfOk r P → IfOk r Q → IfOk r R
if_both (Ok x) P Q R f h g = f x h g
if_both (Err e) P Q R f h g = h
