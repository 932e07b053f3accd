-- Commands by themselves.
use Rattle.std.proofs.Common.{◌≡◌, ◌≢◌, ℕ, suc, ◌≤◌, ◌<◌, map, Bool, true, false, not, ◌&&◌, ◌||◌, nat_lt, List, [], ◌∷◌, length, get_or, Option, Some, None, refl, sym, ap, ◌∙◌, subst, arith}
use Rattle.std.specs.Prelude.{IsUtf8, option_map, IsSomeAnd}
use Rattle.std.specs.Option.{option_or}
use Rattle.std.specs.List.{All, list_all, list_any}
use Rattle.std.specs.Str.{bytes_eq}
use Rattle.std.specs.Cmp.Lexicographic.{bytes_decides}
use Rattle.serde_json.specs.Read.{read, max_depth}
use Rattle.serde_json.specs.Data.{depth}
use Rattle.serde_json.specs.Written.{has_float}
use Rattle.res_path.specs.Names.{is_name}
use Rattle.res_path.specs.Paths.{Names}
use Rattle.res_path.proofs.Spelled.{both}
use Rattle.proj_desc.specs.declared.input.Input.{Input}
use Rattle.proj_desc.specs.declared.input.Input.TheVariants.{Own, Other}
use Rattle.proj_desc.specs.declared.command.Command.{Command}
use Rattle.proj_desc.specs.declared.cause.DescCause.{DescCause}
use Rattle.proj_desc.specs.declared.cause.DescCause.TheVariants as cause
use Rattle.proj_desc.specs.declared.desc.Desc.{Desc}
use Rattle.proj_desc.specs.Described.{command_of}
use Rattle.proj_desc.specs.Canonical.{input_text, command_data, command_text, commanded, IsTextOf, IsCommandText}
use Rattle.proj_desc.specs.Causes.{has_many_inputs, has_places, is_foreign, lies_below, command_word_cause, command_link_cause, command_cause}
use Rattle.proj_desc.specs.FirstCause.{when}
use Rattle.proj_desc.specs.Valid.{IsValid}
use Rattle.proj_desc.proofs.Back.{first_none, second_none, applied, command_back, texts_floatless, command_depth}
use Rattle.proj_desc.proofs.Valid.{none_or, any_false, all_true, both_none, unlike}
use Rattle.proj_desc.proofs.Values.{value_read}

-- ---- the commands of a valid description

held : (b : Bool) → not b ≡ false → b ≡ true
held true h = refl
held false h = cc

module _ (project : List ℕ) (references : List (List ℕ)) (others : All (λ name. name ≢ project) references) where
  among : (name : List ℕ) (names : List (List ℕ)) → All (λ other. other ≢ project) names → list_any (bytes_eq name) names ≡ true → name ≢ project
  among name [] all h = cc
  among name (other ∷ names) all h = by (bytes_eq name other) refl h (among name names (λ k d l. all (suc k) d (omega arith)))
    where
      by : (b : Bool) → bytes_eq name other ≡ b → (b || list_any (bytes_eq name) names) ≡ true → (list_any (bytes_eq name) names ≡ true → name ≢ project) → name ≢ project
      by true e g go same = all 0 other (omega arith) (sym ((bytes_decides name other).0 e) ∙ same)
      by false e g go same = go g same

  not_below : (i : Input) → is_foreign references i ≡ false → lies_below (project ∷ []) i ≡ false
  not_below (Own own) h = refl
  not_below (Other []) h = refl
  not_below (Other (name ∷ path)) h =
      let there = among name references others (held (list_any (bytes_eq name) references) h) in
      ap (λ b. b && true) (unlike project name (λ same. there (sym same)))

  none_below : (is : List Input) → list_any (is_foreign references) is ≡ false → list_any (lies_below (project ∷ [])) is ≡ false
  none_below [] h = refl
  none_below (i ∷ is) h =
      let parts = none_or (is_foreign references i) (list_any (is_foreign references) is) h in
      λ k. not_below i parts.0 k || none_below is parts.1 k

pub commands_keep : (project : List ℕ) (d : Desc) → IsValid project d → All (λ c. command_cause project c ≡ None) d.commands
commands_keep project d v k c l =
    let own = get_or d.commands k c in
    let few = any_false has_many_inputs d.commands (none_or (nat_lt 256 (length d.references) || nat_lt 64 (length d.commands)) (list_any has_many_inputs d.commands) v.few).1 k c l in
    let builders = list_all (λ (c : Command). is_name c.builder) d.commands in
    let names = held (list_all is_name d.references && builders) v.named in
    let named = all_true (λ (c : Command). is_name c.builder) d.commands (both (list_all is_name d.references) builders names).1 k c l in
    both_none _ _
    (both_none _ _ (ap (λ b. when b cause.Many) few)
    (both_none _ _ (ap (λ b. when (not b) cause.BadName) named) (both_none _ _ (ap (λ b. when (not b) cause.BadPath) (v.placed k c l)) refl)))
    (both_none _ _ (ap (λ b. when b (cause.Foreign 0)) (none_below project d.references v.others own.inputs (v.referenced k c l)))
    (both_none _ _ (ap (λ b. when b (cause.Inputs 0 0)) (v.unread k k c (omega arith) l)) refl))

-- ---- why a value is no command

pub cause_of : (project : List ℕ) (path : Names) (c d : Command) (found : Option DescCause) → path ≡ project ∷ [] → c ≡ d → command_word_cause project d ≡ None
    → found ≡ command_link_cause path c → command_cause project d ≡ found
cause_of project path c d found at same words is =
    ap (λ o. option_or o (command_link_cause (project ∷ []) d)) words ∙ (λ i. command_link_cause (sym at i) (sym same i)) ∙ sym is

-- ---- the text of a command is read back

pub command_floatless : (c : Command) → has_float (command_data c) ≡ false
command_floatless c = λ k. texts_floatless (map input_text c.inputs) k || false

pub command_shallow : (c : Command) → depth (command_data c) ≤ max_depth
command_shallow c = let own = command_depth c in omega arith

command_placed : (project : List ℕ) (c : Command) → command_cause project c ≡ None → has_places project c ≡ true
command_placed project c h =
    let words = first_none (command_word_cause project c) _ h in
    applied (has_places project c) cause.BadPath (first_none _ _ (second_none _ _ (second_none _ _ words)))

pub command_text_back : (project bytes : List ℕ) (c : Command) → bytes ≡ command_text c → IsUtf8 bytes → read bytes ≡ Some (command_data c) → command_cause project c ≡ None
    → IsCommandText project bytes
command_text_back project bytes c text u r h =
    let told : commanded bytes ≡ Some c = ap (option_map command_of) (value_read bytes (command_data c) u r) ∙ ap Some (command_back project c (command_placed project c h)) in
    subst (λ o. IsSomeAnd o (IsTextOf project bytes)) (sym told) (h, sym text)
