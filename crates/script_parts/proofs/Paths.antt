-- The texts of paths.
use Rattle.std.proofs.Common.{◌≡◌, true, false, [], ◌∷◌, refl, sym, ◌∙◌, ap}
use Rattle.std.specs.Prelude.{IsUtf8}
use Rattle.res_path.specs.Paths.{Names, IsPath, slashed, path_text}
use Rattle.res_path.specs.Parts.{parts_of}
use Rattle.res_path.proofs.Kept.{kept_slashed}
use Rattle.res_path.proofs.Built.{kept_utf8}
use Rattle.res_path.proofs.Spelled.{parts_of-slashed}
use Rattle.script_words.specs.Words.{Word}

-- a path's text is UTF-8
pub utf8_path : (path : Names) → IsPath path → IsUtf8 (path_text path)
unfolding lib.Utf8.encode
utf8_path [] h = (47 ∷ [], (refl, refl))
utf8_path (name ∷ names) h = kept_utf8 (slashed (name ∷ names)) (kept_slashed (name ∷ names) h)

abbrev pub path_at : Word → Names
path_at [] = []
path_at (b ∷ []) = []
path_at (b ∷ c ∷ bytes) = parts_of (b ∷ c ∷ bytes)

pub path_back : (p : Names) → IsPath p → path_at (path_text p) ≡ p
path_back [] h = refl
path_back ([] ∷ names) h = let empty : false ≡ true = h.names.0.form in cc
path_back ((b ∷ name) ∷ names) h = parts_of-slashed ((b ∷ name) ∷ names) h.names

-- paths with one text are one
pub same_path : (p q : Names) → IsPath p → IsPath q → path_text p ≡ path_text q → p ≡ q
same_path p q h g e = sym (path_back p h) ∙ ap path_at e ∙ path_back q g
