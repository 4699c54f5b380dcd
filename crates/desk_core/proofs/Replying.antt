-- A command stops where the keeper fails.
use Rattle.std.proofs.Common.{◌≡◌, Option, Result, Ok, Err, IsErr, IsErrAnd}
use Rattle.desk_keeper.specs.Tables.{Tables}
use Rattle.desk_core.specs.declared.refusals.Refusal.{Refusal}
use Rattle.desk_core.specs.declared.refusals.Stop.{Stop}
use Rattle.desk_core.specs.declared.refusals.Stop.TheVariants.{Refused, Fault, Memory}
use Rattle.desk_core.specs.Replies.{Comes, Hears}

-- a keeper that was asked and failed refuses nothing
unheard : {A B C D : Type 0} (view : A → B) (other : C → D) (stop : Stop) (told now : Option Tables) (holds : Tables → B) (says : Tables → Result D Refusal → Type 0)
    → Hears view (Err stop) told holds → Comes other (Err stop) now says
unheard view other (Refused refusal) told now holds says h = absurd h
unheard view other Fault told now holds says h = tt
unheard view other Memory told now holds says h = tt

-- what a `?` hands on is what stopped
pub heard-on : {A B C D : Type 0} (view : A → B) (other : C → D) (answer : Result C Stop) (stop : Stop) (told now : Option Tables) (holds : Tables → B) (says : Tables → Result D Refusal → Type 0)
    → IsErr answer × IsErrAnd answer (λ e. e ≡ stop) → Hears view (Err stop) told holds → Comes other answer now says
heard-on view other (Ok value) stop told now holds says h hears = absurd (cc h.0)
heard-on view other (Err e) stop told now holds says h hears = rw h.1 (unheard view other stop told now holds says hears)
