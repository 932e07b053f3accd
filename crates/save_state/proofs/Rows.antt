-- The image of the fresh workspace by hand, and what its form makes of it.
use Rattle.std.proofs.Common.{◌≡◌, ℕ, false, List, [], ◌∷◌, ◌++◌, length, Some, None, Ok, refl, sym, ap, ◌∙◌, lit<, lit≤}
use Rattle.ws_wire.specs.Fields.{number_field, text_field}
use Rattle.save_form.specs.Forms.{number, text, read_all}
use Rattle.save_form.proofs.Wholes.{all_again}
use Rattle.ws_elem.specs.declared.kind.Kind.TheVariants.{Root}
use Rattle.save_elem.specs.Elems.{elem}
use Rattle.save_elem.specs.Fits.{FitsElem}
use Rattle.save_state.specs.declared.state.State.{State}
use Rattle.save_state.specs.Entries.{Entries}
use Rattle.save_state.specs.Fits.{FitsState}
use Rattle.save_state.specs.Paths.{path}
use Rattle.save_state.specs.States.{change, state}
use Rattle.save_state.proofs.StateLaws.{state_lawful}

abbrev eight : ℕ → List ℕ
eight n = 0 ∷ 0 ∷ 0 ∷ 0 ∷ 0 ∷ 0 ∷ 0 ∷ n ∷ []

abbrev four : ℕ → List ℕ
four n = 0 ∷ 0 ∷ 0 ∷ n ∷ []

abbrev nothing : Entries
nothing p = None

-- the counters of the fresh workspace, no partners, and then changes of the tree
abbrev text_with : List ℕ → List ℕ
text_with changes = eight 2 ++ eight 1 ++ eight 1 ++ four 0 ++ changes ++ four 0 ++ four 0 ++ four 0

-- the root alone, as node 1
abbrev root : List ℕ
root = (8 ∷ eight 1) ++ eight 0 ++ (0 ∷ 0 ∷ []) ++ eight 0 ++ four 0 ++ four 0 ++ four 0 ++ four 0

abbrev fresh : State
fresh = record {
  next_node = 2;
  next_stamp = 1;
  next_marker = 1;
  partners = [];
  tree = record { path = []; entry = Some (record { kind = Root; node = 1; stamp = 0; opened = false; derived = false; desc_stamp = 0; desc = []; bytes = []; marks = []; syncs = [] }) } ∷ [];
  shelf = [];
  built = [];
  kept = [];
}

-- the image of the fresh workspace, of 93 bytes
abbrev image : List ℕ
image = text_with (four 1 ++ (four 1 ++ 47 ∷ []) ++ 1 ∷ root)

image_long : length image ≡ 93
image_long = refl

fresh_spelled : (state nothing nothing).spell fresh ≡ image
unfolding state change path elem number number_field text text_field
fresh_spelled = refl

fresh_entry : FitsElem (record { kind = Root; node = 1; stamp = 0; opened = false; derived = false; desc_stamp = 0; desc = []; bytes = []; marks = []; syncs = [] })
fresh_entry = record { node = lit< tt; stamp = lit< tt; desc_stamp = lit< tt; desc = lit< tt; bytes = lit< tt; marks = (lit< tt, tt); syncs = (lit< tt, tt) }

fresh_fits : FitsState nothing nothing fresh
unfolding elem number number_field text text_field
fresh_fits = record {
  next_node = lit< tt;
  next_stamp = lit< tt;
  next_marker = lit< tt;
  partners = (lit< tt, tt);
  tree = (lit< tt, (record { path = record { names = tt; deep = lit≤ tt; long = lit≤ tt }; above = refl; entry = fresh_entry; new = refl }, tt));
  shelf = (lit< tt, tt);
  built = (lit< tt, tt);
  kept = (lit< tt, tt);
}

fresh_read : read_all (state nothing nothing) image ≡ Ok fresh
fresh_read = ap (read_all (state nothing nothing)) (sym fresh_spelled) ∙ all_again (FitsState nothing nothing) (state nothing nothing) (state_lawful nothing nothing) fresh fresh_fits
