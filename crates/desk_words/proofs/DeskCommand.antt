-- The command is one of which the clauses of `clap` say all.
use Rattle.std.proofs.Common.{◌≡◌, ◌⊎◌, inl, inr, ℕ, List, [], ◌∷◌, true, false, refl, subst, arith}
use Rattle.clap.specs.declared.error.kind.ErrorKind.{ErrorKind}
use Rattle.clap.specs.declared.error.kind.ErrorKind.TheVariants.{OutOfMemory}
use Rattle.clap.specs.Walk.{is_empty}
use Rattle.clap.specs.Words.{App, Kinds, IsAmong, fault_of, is_simple, is_simple_and_free}
use Rattle.clap.proofs.OnLiterals.{clap_on_literals}
use Rattle.desk_words.specs.Words.{desk_app}

pub desk-simple : is_simple desk_app ≡ true
unfolding clap_on_literals
desk-simple = refl

pub desk-free : is_simple_and_free desk_app ≡ true
unfolding clap_on_literals
desk-free = refl

some-kind : (k : ErrorKind) (kinds : Kinds) → IsAmong k kinds → is_empty kinds ≡ false
some-kind k [] among = absurd among
some-kind k (first ∷ more) among = grind arith

-- words that are refused for another cause than memory are no command
pub refused : (app : App) (words : List (List ℕ)) (k : ErrorKind) → app ≡ desk_app → (k ≡ OutOfMemory → ⊥)
    → (k ≡ OutOfMemory) ⊎ IsAmong k (fault_of app words) → is_empty (fault_of desk_app words) ≡ false
refused app words k same other (inl memory) = absurd (other memory)
refused app words k same other (inr among) = some-kind k (fault_of desk_app words) (subst (λ (a : App). IsAmong k (fault_of a words)) same among)
