-- What was built last agrees with what is there: equal stamps mean equal contents.
use Rattle.std.proofs.Common.{◌≡◌, [], ◌∷◌, Option, Some, None, IfSome, refl, sym}
use Rattle.std.specs.List.{All}
use Rattle.std.specs.Option.{option_map}
use Rattle.std.specs.FinMap.{get}
use Rattle.std.proofs.lemmas.List.Elements.{All-nil, All-cons}
use Rattle.ws_elem.specs.Stamps.{AgreeByStamps, SameContents}
use Rattle.ws_elem.specs.Trees.{Tree}
use Rattle.ws_elem.specs.declared.element.Element.{Element}
use Rattle.ws_elem.specs.declared.kind.Kind.TheVariants.{File}
use Rattle.build_laws.specs.States.{Item}
use Rattle.build_laws.specs.Turns.{IsStamped}
use Rattle.ws_marks.specs.declared.record.Record.{Record}
use Rattle.ws_content.specs.Handing.{built_of}
use Rattle.ws_core.specs.States.{Moment}
use Rattle.ws_core.specs.Sessions.{AsBuilt, IsConsistent, IsPast}
use Rattle.build_core.specs.States.{state_of}

same_back : (a b : Tree) → SameContents a b → SameContents b a
same_back a b h p q = by (get b p) (get a q) (h q p)
  where
    by : (o u : Option Element)
        → IfSome u (λ e. IfSome o (λ f. e.kind ≡ File → f.kind ≡ File → e.stamp ≡ f.stamp → e.bytes ≡ f.bytes))
        → IfSome o (λ e. IfSome u (λ f. e.kind ≡ File → f.kind ≡ File → e.stamp ≡ f.stamp → e.bytes ≡ f.bytes))
    by None u g = tt
    by (Some e) None g = tt
    by (Some e) (Some f) g = λ e_file f_file stamps. sym (g f_file e_file (sym stamps))

agree : (a b : Tree) → SameContents a a → SameContents a b → SameContents b b → AgreeByStamps (a ∷ b ∷ [])
agree a b first across second =
    two (λ t. All (SameContents t) (a ∷ b ∷ [])) a b (two (SameContents a) a b first across) (two (SameContents b) a b (same_back a b across) second)
  where
    two : (P : Tree → Type 0) (x y : Tree) → P x → P y → All P (x ∷ y ∷ [])
    two P x y h g = All-cons P x (y ∷ []) h (All-cons P y [] g (All-nil P))

-- of each command, at every moment
pub stamped : (s : Moment) (i : Item) → IsConsistent s → IsStamped (state_of s) i
stamped s i x = by (get s.remembered.built (i.project, i.index)) refl
  where
    by : (o : Option (Record Tree)) → get s.remembered.built (i.project, i.index) ≡ o → IfSome (option_map built_of o) (λ b. AgreeByStamps (b.tree ∷ s.resources.tree ∷ []))
    by None is = tt
    by (Some r) is =
        let past : IsPast s.remembered r.tree = AsBuilt (i.project, i.index) r is refl in
        agree r.tree s.resources.tree (x.alike r.tree r.tree past past) (x.known r.tree past).tree x.resources.tree_known.tree
