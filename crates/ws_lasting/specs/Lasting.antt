-- What of a tree lasts over a save: all but transient markers.
use Rattle.std.specs.Prelude.{◌≡◌, Bool, true, false, cond, List, [], ◌∷◌, map, Option, Some, refl}
use Rattle.std.specs.Option.{option_map}
use Rattle.std.specs.Ordering.{eq_by_cmp}
use Rattle.std.specs.FinMap.{entries, find, from_entries, get, get-entries, get-from_entries}
use Rattle.std.proofs.Common.{ap, sym, ◌∙◌}
use Rattle.mark_set.specs.Markers.{durable_marks}
use Rattle.res_path.specs.Paths.{Names, path_cmp}
use Rattle.res_path.specs.PathLaws.{path_cmp_total}
use Rattle.ws_elem.specs.declared.attached.Attachments.{Attachments}
use Rattle.ws_elem.specs.declared.element.Element.{Element}
use Rattle.ws_elem.specs.Trees.{Tree}

-- all that is attached but the transient markers
abbrev pub lasting_attachments : Attachments → Attachments
lasting_attachments a = record a { marks = durable_marks a.marks }

-- the element without its transient markers
abbrev pub lasting_element : Element → Element
lasting_element e = record e { attached = lasting_attachments e.attached }

-- at the same path, the same without transient markers
abbrev pub lasting_entry : Names × Element → Names × Element
lasting_entry e = (e.0, lasting_element e.1)

-- the tree without its transient markers
unfoldable pub lasting : Tree → Tree
lasting t = from_entries (map lasting_entry (entries t))

mapped_cond : (b : Bool) (e : Element) (o : Option Element) → cond b (Some (lasting_element e)) (option_map lasting_element o) ≡ option_map lasting_element (cond b (Some e) o)
mapped_cond true e o = refl
mapped_cond false e o = refl

find_lasting : (es : List (Names × Element)) (q : Names) → find path_cmp q (map lasting_entry es) ≡ option_map lasting_element (find path_cmp q es)
find_lasting [] q = refl
find_lasting (e ∷ es) q =
    ap (cond (eq_by_cmp path_cmp q e.0) (Some (lasting_element e.1))) (find_lasting es q) ∙ mapped_cond (eq_by_cmp path_cmp q e.0) e.1 (find path_cmp q es)

-- at each path there is what was there, without its transient markers
pub get-lasting : (t : Tree) (p : Names) → get (lasting t) p ≡ option_map lasting_element (get t p)
unfolding lasting
get-lasting t p = get-from_entries path_cmp_total (map lasting_entry (entries t)) p ∙ find_lasting (entries t) p ∙ ap (option_map lasting_element) (sym (get-entries t p))
