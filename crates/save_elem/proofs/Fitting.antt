-- What an element tells has a spelling, where it is sound by itself and narrow.
use Rattle.std.proofs.Common.{◌≡◌, ◌<◌, ◌^◌, ℕ, true, List, [], ◌∷◌, map, nat_cmp, refl, sym, ap, ◌∙◌, subst}
use Rattle.std.specs.Prelude.{Option, Some, None, nat_lt}
use Rattle.std.specs.Option.{option_map}
use Rattle.std.specs.Cmp.{nat_cmp_total}
use Rattle.std.specs.Cmp.Lexicographic.{nat_list_cmp_total}
use Rattle.std.specs.List.{AllByRecursion}
use Rattle.std.specs.Ordering.{is_lt}
use Rattle.std.specs.Int.{w32}
use Rattle.std.specs.FinMap.{entries, entries_sorted, values}
use Rattle.std.proofs.Math.Facts.{Fits-of_z, Fits-lt-pow}
use Rattle.std.specs.Prelude.{Result, Ok, Err, IfOk}
use Rattle.ws_wire.specs.Fields.{Input}
use Rattle.save_form.specs.Gives.{Gives}
use Rattle.save_form.specs.Forms.{read_all}
use Rattle.save_form.proofs.Wholes.{all_again}
use Rattle.save_form.specs.declared.stop.Stuck.{Stuck}
use Rattle.save_elem.specs.Elems.{elem}
use Rattle.save_elem.specs.declared.elem.Elem.{Elem}
use Rattle.save_elem.proofs.ElemLaws.{elem_lawful}
use Rattle.save_form.specs.Laws.{FitEach}
use Rattle.save_form.specs.Lists.{is_above}
use Rattle.mark_set.specs.Attributes.{Attributes, AreAttributes}
use Rattle.mark_set.specs.Forms.{IsValue}
use Rattle.mark_set.specs.declared.marker.Marker.{Marker}
use Rattle.mark_set.specs.declared.value.Value.{Value}
use Rattle.mark_set.specs.declared.value.Value.TheVariants as kept
use Rattle.ws_elem.specs.declared.element.Element.{Element}
use Rattle.save_elem.specs.declared.elem.Attr.{Attr}
use Rattle.save_elem.specs.declared.elem.Mark.{Mark}
use Rattle.save_elem.specs.declared.elem.Sync.{Sync}
use Rattle.save_elem.specs.Fits.{FitsValue, FitsAttr, FitsMark, FitsSync, FitsElem, InRange}
use Rattle.save_elem.specs.Sound.{IsAttr, IsSaved, IsSound}
use Rattle.save_elem.specs.Telling.{told_value, told_attr, told_mark, told_sync, lasting, told, IsNarrowValue, IsNarrowAttr, IsNarrowMark, IsNarrowSync, IsNarrow}
use Rattle.save_elem.proofs.Orders.{Chain, chain_sorted, lt_is}
use Rattle.save_elem.proofs.Items.{of_attributes, saved_entries, lasting_all}

value_fits : (v : Value) → IsValue v → IsNarrowValue (told_value v) → FitsValue (told_value v)
value_fits (kept.Int n) is narrow = Fits-lt-pow {w = w32} (Fits-of_z {w = w32} is)
value_fits (kept.Bool b) is narrow = tt
value_fits (kept.Text t) is narrow = narrow

attrs_fit : (before : Option Attr) (es : List (List ℕ × Value)) → Chain nat_list_cmp_total (option_map (λ (a : Attr). a.name) before) es → AllByRecursion IsAttr es → AllByRecursion IsNarrowAttr (map told_attr es) → FitEach FitsAttr before (map told_attr es)
attrs_fit before [] c a n = tt
attrs_fit before (e ∷ es) c a n =
    (record { name = n.0.0; above = c.0; value = value_fits e.1 a.0.1 n.0.1 }, attrs_fit (Some (told_attr e)) es c.1 a.1 n.1)

attributes_fit : (attrs : Attributes) → AreAttributes attrs → AllByRecursion IsNarrowAttr (map told_attr (entries attrs)) → FitEach FitsAttr None (map told_attr (entries attrs))
attributes_fit attrs are n = attrs_fit None (entries attrs) (chain_sorted nat_list_cmp_total (entries attrs) (entries_sorted attrs)) (of_attributes attrs are) n

-- ids, as their test tells that they rise
rises : (before : Option ℕ) (n : ℕ) → is_above (λ a b. is_lt (nat_cmp a b)) before n ≡ true → is_above nat_lt before n ≡ true
rises None n h = refl
rises (Some m) n h = lt_is m n ∙ h

marks_fit : (before : Option Mark) (es : List (ℕ × Marker)) → Chain nat_cmp_total (option_map (λ (m : Mark). m.id) before) es → AllByRecursion (λ e. IsSaved e.0 e.1) es → AllByRecursion (λ (m : Mark). m.id < 2 ^ 64) (map told_mark (map (λ e. e.1) es))
    → AllByRecursion IsNarrowMark (map told_mark (map (λ e. e.1) es)) → FitEach FitsMark before (map told_mark (map (λ e. e.1) es))
marks_fit before [] c a r n = tt
marks_fit before (e ∷ es) c a r n =
    let id : e.1.id ≡ e.0 = a.0.own in (
      record {
        id = r.0;
        above = subst (λ (k : ℕ). is_above nat_lt (option_map (λ (m : Mark). m.id) before) k ≡ true) (sym id) (rises (option_map (λ (m : Mark). m.id) before) e.0 c.0);
        mark_type = n.0.0;
        attrs = (n.0.1, attributes_fit e.1.attrs a.0.attributes n.0.2);
      },
      marks_fit (Some (told_mark e.1)) es (subst (λ (k : ℕ). Chain nat_cmp_total (Some k) es) (sym id) c.1) a.1 r.1 n.1,
    )

syncs_fit : (before : Option Sync) (es : List (ℕ × List ℕ)) → Chain nat_cmp_total (option_map (λ (s : Sync). s.partner) before) es → AllByRecursion (λ (s : Sync). s.partner < 2 ^ 32) (map told_sync es) → AllByRecursion IsNarrowSync (map told_sync es) → FitEach FitsSync before (map told_sync es)
syncs_fit before [] c r n = tt
syncs_fit before (e ∷ es) c r n = (record { partner = r.0; above = rises (option_map (λ (s : Sync). s.partner) before) e.0 c.0; bytes = n.0 }, syncs_fit (Some (told_sync e)) es c.1 r.1 n.1)

pub told_fits : (e : Element) → IsSound e → InRange (told e) → IsNarrow (told e) → FitsElem (told e)
told_fits e s r n =
    let marks = e.attached.marks in
    let all : lasting marks ≡ values marks = lasting_all marks s.marks in
    record {
      node = r.node;
      stamp = r.stamp;
      desc_stamp = r.desc_stamp;
      desc = n.desc;
      bytes = n.bytes;
      marks = (
        n.marks.0,
        subst (λ (ms : List Marker). FitEach FitsMark None (map told_mark ms)) (sym all)
            (marks_fit None (entries marks) (chain_sorted nat_cmp_total (entries marks) (entries_sorted marks)) (saved_entries marks s.marks)
            (subst (λ (ms : List Marker). AllByRecursion (λ (m : Mark). m.id < 2 ^ 64) (map told_mark ms)) all r.marks)
            (subst (λ (ms : List Marker). AllByRecursion IsNarrowMark (map told_mark ms)) all n.marks.1)),
      );
      syncs = (n.syncs.0, syncs_fit None (entries e.attached.syncs) (chain_sorted nat_cmp_total (entries e.attached.syncs) (entries_sorted e.attached.syncs)) r.syncs n.syncs.1);
    }

-- what is read fits
pub given_fits : (r : Result Elem Stuck) (i j : Input) → Gives r j (elem.read i) → IfOk r FitsElem
given_fits (Ok e) i j given = (elem_lawful.takes i j e given).1
given_fits (Err stuck) i j given = tt

-- ---- whole texts

pub told_read : (e : Element) (bytes : List ℕ) → IsNarrow (told e) → bytes ≡ elem.spell (told e) → IsSound e → InRange (told e) → read_all elem bytes ≡ Ok (told e)
told_read e bytes n same s r = ap (read_all elem) same ∙ all_again FitsElem elem elem_lawful (told e) (told_fits e s r n)
