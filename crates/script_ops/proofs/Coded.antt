-- The operation that some words are.
use Rattle.std.proofs.Common.{◌≡◌, true, false, Some, None, List, [], ◌∷◌, drop, refl, ap, arith}
use Rattle.std.specs.Prelude.{codes}
use Rattle.std.specs.Str.{bytes_eq}
use Rattle.std.specs.Str.Parse.{digits_value}
use Rattle.ws_elem.specs.declared.depth.Depth.TheVariants.{Zero, One, Infinite}
use Rattle.op_kind.specs.declared.op.Op.{Op}
use Rattle.op_kind.specs.declared.op.Op.TheVariants.{CreateFile, CreateFolder, CreateProject, Delete, Write, Touch, Derived, Move, Copy, Open, Close, Describe, Forget, Mark, Attr, Unmark, ClearMarks, Partner, Sync, Flush, Read}
use Rattle.op_kind.specs.declared.op.Want.TheVariants.{Show, Cat, Tree, Digest}
use Rattle.script_words.specs.Words.{Word}
use Rattle.script_parts.proofs.Numbers.{number_back}
use Rattle.script_parts.proofs.Paths.{path_at, path_back}
use Rattle.script_parts.proofs.Values.{chosen, depth_at, nth, attributes_at, change_at, words_of, AreNamed, attributes_back, change_back}
use Rattle.script_ops.specs.Operations.{operation_parts}

abbrev pub created_at : List Word → Op
created_at words = chosen (nth 0 words) ((codes "project", CreateProject (path_at (nth 1 words))) ∷ (codes "folder", CreateFolder (path_at (nth 1 words))) ∷ [])
    (CreateFile (path_at (nth 1 words)) (nth 2 words))

abbrev pub operation_at : Word → List Word → Op
operation_at verb words = let path = path_at (nth 0 words) in chosen verb (
    (codes "create", created_at words)
    ∷ (codes "delete", Delete path)
    ∷ (codes "write", Write path (nth 1 words))
    ∷ (codes "touch", Touch path)
    ∷ (codes "derived", Derived path (bytes_eq (nth 1 words) (codes "on")))
    ∷ (codes "move", Move path (path_at (nth 1 words)))
    ∷ (codes "copy", Copy path (path_at (nth 1 words)))
    ∷ (codes "open", Open path)
    ∷ (codes "close", Close path)
    ∷ (codes "describe", Describe path (nth 1 words))
    ∷ (codes "forget", Forget path)
    ∷ (codes "mark", Mark path (nth 1 words) (attributes_at (drop 2 words)))
    ∷ (codes "attr", Attr path (digits_value 10 (nth 1 words)) (nth 2 words) (change_at (drop 3 words)))
    ∷ (codes "unmark", Unmark path (digits_value 10 (nth 1 words)))
    ∷ (codes "clearmarks", ClearMarks path (nth 1 words) (depth_at (nth 2 words)))
    ∷ (codes "partner", Partner (nth 0 words))
    ∷ (codes "sync", Sync path (nth 1 words) (Some (nth 2 words)))
    ∷ (codes "nosync", Sync path (nth 1 words) None)
    ∷ (codes "flush", Flush path (nth 1 words) (depth_at (nth 2 words)))
    ∷ (codes "show", Read path Show)
    ∷ (codes "cat", Read path Cat)
    ∷ (codes "tree", Read path Tree)
    ∷ []) (Read path Digest)

abbrev pub op_at : List Word → Op
op_at words = operation_at (nth 0 words) (drop 1 words)

pub op_back : (x : Op) → AreNamed (operation_parts x) → op_at (words_of (operation_parts x)) ≡ x
op_back (CreateProject p) h = ap (λ p. CreateProject p) (path_back p h.1.1.0)
op_back (CreateFolder p) h = ap (λ p. CreateFolder p) (path_back p h.1.1.0)
op_back (CreateFile p bytes) h = ap (λ p. CreateFile p bytes) (path_back p h.1.1.0)
op_back (Delete p) h = ap (λ p. Delete p) (path_back p h.1.0)
op_back (Write p bytes) h = ap (λ p. Write p bytes) (path_back p h.1.0)
op_back (Touch p) h = ap (λ p. Touch p) (path_back p h.1.0)
op_back (Derived p true) h = ap (λ p. Derived p true) (path_back p h.1.0)
op_back (Derived p false) h = ap (λ p. Derived p false) (path_back p h.1.0)
op_back (Move p q) h = λ i. Move (path_back p h.1.0 i) (path_back q h.1.1.0 i)
op_back (Copy p q) h = λ i. Copy (path_back p h.1.0 i) (path_back q h.1.1.0 i)
op_back (Open p) h = ap (λ p. Open p) (path_back p h.1.0)
op_back (Close p) h = ap (λ p. Close p) (path_back p h.1.0)
op_back (Describe p text) h = ap (λ p. Describe p text) (path_back p h.1.0)
op_back (Forget p) h = ap (λ p. Forget p) (path_back p h.1.0)
op_back (Mark p kind attributes) h = λ i. Mark (path_back p h.1.0 i) kind (attributes_back attributes h.1.1.1 i)
op_back (Attr p id name value) h =
    let number = number_back id (omega (arith, h.1.1.0.fits)) in
    λ i. Attr (path_back p h.1.0 i) (number i) name (change_back value h.1.1.1.1 i)
op_back (Unmark p id) h =
    let number = number_back id (omega (arith, h.1.1.0.fits)) in
    λ i. Unmark (path_back p h.1.0 i) (number i)
op_back (ClearMarks p kind Zero) h = ap (λ p. ClearMarks p kind Zero) (path_back p h.1.0)
op_back (ClearMarks p kind One) h = ap (λ p. ClearMarks p kind One) (path_back p h.1.0)
op_back (ClearMarks p kind Infinite) h = ap (λ p. ClearMarks p kind Infinite) (path_back p h.1.0)
op_back (Partner name) h = refl
op_back (Sync p name (Some bytes)) h = ap (λ p. Sync p name (Some bytes)) (path_back p h.1.0)
op_back (Sync p name None) h = ap (λ p. Sync p name None) (path_back p h.1.0)
op_back (Flush p name Zero) h = ap (λ p. Flush p name Zero) (path_back p h.1.0)
op_back (Flush p name One) h = ap (λ p. Flush p name One) (path_back p h.1.0)
op_back (Flush p name Infinite) h = ap (λ p. Flush p name Infinite) (path_back p h.1.0)
op_back (Read p Show) h = ap (λ p. Read p Show) (path_back p h.1.0)
op_back (Read p Cat) h = ap (λ p. Read p Cat) (path_back p h.1.0)
op_back (Read p Tree) h = ap (λ p. Read p Tree) (path_back p h.1.0)
op_back (Read p Digest) h = ap (λ p. Read p Digest) (path_back p h.1.0)
