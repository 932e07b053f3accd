-- What holds of a result, where it is one.
use Rattle.std.specs.Prelude.{Option, Some, None, Result, Ok, Err, IfErr, IfOk, IfSome, MatchResult}

pub if_ok : {A E : Type 0} (r : Result A E) (P Q : A → Type 0) → ((a : A) → P a → Q a) → IfOk r P → IfOk r Q
if_ok (Ok a) P Q so p = so a p
if_ok (Err e) P Q so p = tt

pub if_err : {A E : Type 0} (r : Result A E) (P Q : E → Type 0) → ((e : E) → P e → Q e) → IfErr r P → IfErr r Q
if_err (Ok a) P Q so p = tt
if_err (Err e) P Q so p = so e p

pub match_result : {A E : Type 0} (r : Result A E) (P Q : A → Type 0) (R S : E → Type 0) → ((a : A) → P a → Q a) → ((e : E) → R e → S e) → IfOk r P → IfErr r R → MatchResult r Q S
match_result (Ok a) P Q R S so then p q = so a p
match_result (Err e) P Q R S so then p q = then e q

pub if_some : {A : Type 0} (o : Option A) (P Q : A → Type 0) → ((a : A) → P a → Q a) → IfSome o P → IfSome o Q
if_some (Some a) P Q so p = so a p
if_some None P Q so p = tt
