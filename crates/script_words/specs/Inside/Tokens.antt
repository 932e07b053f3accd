-- What a line begins with.
use Rattle.std.specs.Prelude.{◌≡◌, ℕ, Bool, false, true, ◌==◌, List, [], ◌∷◌, ◌++◌, Option, Some, None}
use Rattle.script_words.specs.Words.{Token, SpellsToken}

-- a quoted word's first byte
abbrev pub starts_quoted : List ℕ → Bool
starts_quoted [] = false
starts_quoted (b ∷ bytes) = b == 34

-- what follows a token: nothing, or a space and more
abbrev pub after_token : Option (List ℕ) → List ℕ
after_token None = []
after_token (Some more) = 32 ∷ more

-- the line begins with the token, and after it this is left
pub record StartsWith (line : List ℕ) (token : Token) (more : Option (List ℕ)) : Type 0 where
  pub text : List ℕ
  pub line_is : line ≡ text ++ after_token more
  pub spelled : SpellsToken text token

-- no token is in front, or neither the end nor a space follows it
abbrev pub StartsWithNone : List ℕ → Type 0
StartsWithNone line = (token : Token) (more : Option (List ℕ)) → StartsWith line token more → ⊥

-- what is left of a line after a token: nothing, or what follows the space that it was taken with
abbrev pub left_after : Bool → List ℕ → Option (List ℕ)
left_after false rest = None
left_after true rest = Some rest

-- the token in front of the line was taken off it and put behind those read
pub record TakesToken (line rest : List ℕ) (read all : List Token) (goes_on : Bool) : Type 0 where
  pub token : Token
  pub all_are : all ≡ read ++ token ∷ []
  pub starts : StartsWith line token (left_after goes_on rest)
