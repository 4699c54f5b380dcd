-- Bytes that are written one after another.
use Rattle.std.proofs.Common.{◌≡◌, sym, ℕ, ◌+◌, ◌<◌, List, ◌++◌, length, take, arith, length-append, Option, Result, Ok, Err, OnOk, OnErr, refl}
use Rattle.std.proofs.Math.Seq.{take-append-add}
use Rattle.desk_io.specs.Device.{Takes}
use Rattle.desk_io.specs.Whole.{failed_by_last}
use Rattle.desk_io.proofs.Joined.{takes_more}
use Rattle.desk_http.specs.Serving.{Tells, outcome_said, writes_failed}

pub on_err : {A E P Q : Type 0} (r : Result A E) → (P → Q) → OnErr r P → OnErr r Q
on_err (Ok x) f h = tt
on_err (Err e) f h = f h

-- what is told of a whole write
pub tells : {A E : Type 0} (written : Result A E) (bytes : List ℕ) (status : ℕ) (before after : Option (List ℕ)) → OnOk written (Takes before bytes after)
    → OnErr written ((n : ℕ) × (n < length bytes) × Takes before (take n bytes) after) → Tells bytes status (outcome_said written status) before after
tells (Ok x) bytes status before after ok err = (refl, ok)
tells (Err e) bytes status before after ok err = err

-- what is counted of a whole write
pub counts : {A E : Type 0} (written : Result A E) (status faults after : ℕ) → after ≡ failed_by_last faults written → after ≡ writes_failed faults (outcome_said written status)
counts (Ok x) status faults after is = is
counts (Err e) status faults after is = is

-- the first bytes and a beginning of the second are a beginning of both
pub second_cut : (before middle after : Option (List ℕ)) (head body : List ℕ) → Takes before head middle
    → ((n : ℕ) × (n < length body) × Takes middle (take n body) after)
    → (n : ℕ) × (n < length (head ++ body)) × Takes before (take n (head ++ body)) after
second_cut before middle after head body one (n, short, took) =
    (length head + n, omega (arith, length-append head body), takes_more before middle after head (take n body) _ one took (sym (take-append-add head body n)))
