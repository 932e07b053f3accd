-- What a store knows of its areas once they were found.
use Rattle.std.specs.Prelude.{◌≡◌, ℕ, false, Option, Some, None, Ok}
use Rattle.ws_outside.specs.declared.contents.Contents.{Contents}
use Rattle.ws_outside.specs.declared.contents.Which.{Which}
use Rattle.ws_outside.specs.declared.contents.Which.TheVariants.{Right}
use Rattle.ws_outside.specs.Disk.{picked}
use Rattle.area_pair.specs.declared.opening.Found.{Found}
use Rattle.area_pair.specs.Found.{Ended}
use Rattle.area_pair.specs.Reads.{Heads, heads_of, chosen, greatest, other}
use Rattle.area_store.specs.declared.desk.Desk.{Desk}

-- the home area: the chosen one; where there is none the right one, so that the left one is written first
abbrev pub home_of : Option Which → Which
home_of None = Right
home_of (Some area) = area

-- the place of that gate
abbrev pub gate_in : Ended → Option ℕ
gate_in None = None
gate_in (Some ended) = Some ended.0

-- what a store knows once it has found these
abbrev pub desk_with : {D : Type 0} → D → Found → Desk D
desk_with disk found = record {
  disk = disk;
  home = home_of (chosen found.heads);
  gate = gate_in found.ended;
  top = greatest found.heads;
  home_shut = picked (home_of (chosen found.heads)) found.left_shut found.right_shut;
  spare_shut = picked (other (home_of (chosen found.heads))) found.left_shut found.right_shut;
  failed = false;
}

-- a store's home area is the chosen one of these areas, or the right one, and it goes on behind their greatest number
pub record IsBegun {D : Type 0} (both : Contents) (desk : Desk D) : Type 0 where
  pub heads : Heads
  pub are : heads_of both ≡ Ok heads
  pub home : desk.home ≡ home_of (chosen heads)
  pub top : desk.top ≡ greatest heads
