-- The rules, by what is tested.
use Rattle.std.proofs.Common.{◌≡◌, ◌↔◌, ◌+◌, ◌-◌, ◌^◌, ◌≤◌, Bool, List, ◌++◌, sym, subst}
use Rattle.std.specs.Prelude.{IsTrue}
use Rattle.std.specs.FinMap.{len}
use Rattle.std.specs.List.{AllByRecursion}
use Rattle.ws_elem.specs.Stamps.{AgreeByStamps}
use Rattle.ws_elem.specs.Trees.{Tree, Whole}
use Rattle.ws_durable.specs.Saved.{Saved, trees, maps}
use Rattle.save_valid.specs.Descriptions.{IsDescribed, IsBuiltIn}
use Rattle.save_valid.specs.Places.{IsShelved}
use Rattle.save_valid.specs.Rules.{Each, IsBelow, counters_of, AllDiffer, nodes_of}
use Rattle.save_format.specs.Valid.{IsLawful}

module _ (d : Saved) where
  abbrev pub Placed : List Tree → Type 0
  Placed ts = AllByRecursion Whole ts × Each (IsShelved d.tree d.shelf) d.shelf × AllDiffer (nodes_of d.tree ++ nodes_of d.shelf) × (len d.tree + len d.shelf ≤ 1048576)

  abbrev pub Low : Type 0
  Low = (d.next_node ≤ 2 ^ 63 - 1) × (d.next_stamp ≤ 2 ^ 63 - 1) × (d.next_marker ≤ 2 ^ 63 - 1)

  abbrev pub Numbered : List Tree → Type 0
  Numbered ms = AllByRecursion (Each (λ _. IsBelow (counters_of d))) ms × AllDiffer d.partners

  abbrev pub Projected : List Tree → Type 0
  Projected ts = AllByRecursion (Each IsDescribed) ts × AllByRecursion (IsBuiltIn d.tree) d.built

  together : Placed (trees d) → Low → Numbered (maps d) → AgreeByStamps (maps d) → Projected (trees d) → IsLawful d
  together p l n s j = record {
    whole = p.0;
    shelf = p.1;
    nodes = p.2;
    few = p.3;
    next_node = l.0;
    next_stamp = l.1;
    next_marker = l.2;
    below = n.0;
    partners = n.1;
    stamps = s;
    described = j.0;
    built = j.1;
  }

  pub lawful : (ts ms : List Tree) (placed low numbers contents projects all : Bool) → ts ≡ trees d → ms ≡ maps d
      → (IsTrue all ↔ (IsTrue placed × IsTrue low × IsTrue numbers × IsTrue contents × IsTrue projects))
      → (IsTrue placed ↔ Placed ts) → (IsTrue low ↔ Low) → (IsTrue numbers ↔ Numbered ms) → (IsTrue contents ↔ AgreeByStamps ms) → (IsTrue projects ↔ Projected ts) → IsTrue all ↔ IsLawful d
  lawful ts ms placed low numbers contents projects all is own whole p l n s j = (
    λ u. let w = whole.0 u in together (subst Placed is (p.0 w.0)) (l.0 w.1) (subst Numbered own (n.0 w.2)) (subst AgreeByStamps own (s.0 w.3)) (subst Projected is (j.0 w.4)),
    λ h. whole.1 (
      p.1 (subst Placed (sym is) (h.whole, h.shelf, h.nodes, h.few)),
      l.1 (h.next_node, h.next_stamp, h.next_marker),
      n.1 (subst Numbered (sym own) (h.below, h.partners)),
      s.1 (subst AgreeByStamps (sym own) h.stamps),
      j.1 (subst Projected (sym is) (h.described, h.built)),
    ),
  )
