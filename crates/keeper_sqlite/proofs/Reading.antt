-- A query that only reads shows what the database holds, and commits nothing.
use Rattle.std.proofs.Common.{◌≡◌, ◌∙◌, ℕ, Bool, true, false, ◌&&◌, cond, List, [], ◌∷◌, append-nil, length, ◌==◌, Option, Some, None, Ok, Err, ◌⊎◌, inl, inr, refl, sym, ap, arith}
use Rattle.std.proofs.lemmas.Bool.{cases_Bool, eqb-true}
use Rattle.sqlite_value.specs.Order.{Row}
use Rattle.sqlite_trees.specs.declared.store.Store.{Ghosts}
use Rattle.sqlite_schema.specs.declared.schema.Schema.{Schema}
use Rattle.sqlite_schema.specs.declared.command.Command.{Command}
use Rattle.sqlite_schema.specs.declared.command.Returning.{Returning}
use Rattle.sqlite_ast.specs.declared.Select.{Select as Query}
use Rattle.sqlite_ast.specs.declared.Statement.{Statement}
use Rattle.sqlite_ast.specs.declared.Statement.TheVariants.{Select}
use Rattle.sqlite_syntax.specs.declared.statement.Parsed.{Parsed}
use Rattle.sqlite_resolve.specs.declared.compiled.Compiled.{Compiled}
use Rattle.sqlite_resolve.specs.declared.error.CompileError.TheVariants.{NoSuchTable}
use Rattle.sqlite_resolve.specs.Lowering.{Checked, and_then}
use Rattle.sqlite_resolve.specs.Scope.{Name}
use Rattle.sqlite_resolve.specs.Compile.{first, returning, meaning, planned, with_command, compiled}
use Rattle.sqlite.specs.declared.error.Error.{Error}
use Rattle.sqlite.specs.Listing.{listing_schema, understood, reads_listing, if_select}
use Rattle.sqlite.specs.Listing as listing
use Rattle.sqlite.specs.State.{State, HasCleanDisk, Survives, IsUnchanged, IsRolledBack, Shown, FailsToShow, FailsToQuery, IsTooLate, IsNotRun}
use Rattle.sqlite.specs.Held.{Held, state}
use Rattle.sqlite.proofs.InsideLemmas.{unchanged_keeps}
use Rattle.store_texts.specs.Queries.{is_select, is_reading, only_reads}
use Rattle.keeper_sqlite.specs.Commits.{CommitsNothing, Answers}

chosen : (statement : Statement) → is_select statement ≡ true → (query : Query) × (statement ≡ Select query)
chosen (Select query) e = (query, refl)
chosen _ e = absurd cc

by_command : (r : Checked Command) (formats : List Name) (plan : List Name × (Command × Option Returning))
    → and_then (and_then r (λ c. Ok (c, None))) (λ found. Ok (formats, found)) ≡ Ok plan → (plan.1.1 ≡ None) × (plan.0 ≡ formats)
by_command (Err e) formats plan h = absurd cc
by_command (Ok command) formats plan h =
    let same : (formats, (command, None)) ≡ plan = cc in (ap (λ (p : List Name × (Command × Option Returning)). p.1.1) (sym same), ap (λ (p : List Name × (Command × Option Returning)). p.0) (sym same))

-- the plan of a query shows nothing that it writes, and has the formats that were read
select_planned : (schema : Schema) (p : Parsed) (query : Query) (plan : List Name × (Command × Option Returning)) → p.statement ≡ Select query → planned schema p ≡ Ok plan
    → (plan.1.1 ≡ None) × (plan.0 ≡ p.formats)
unfolding planned meaning returning Rattle.sqlite_resolve.specs.Compile.timed
select_planned schema p query plan is h = by_command _ p.formats plan (rw is at h)

both : (a b : Bool) → (a && b) ≡ true → (a ≡ true) × (b ≡ true)
both true b e = (refl, e)
both false b e = cc

none_of : (formats : List Name) → (length formats == 0) ≡ true → formats ≡ []
none_of [] e = refl
none_of (x ∷ xs) e = let same : length (x ∷ xs) ≡ 0 = eqb-true (length (x ∷ xs)) 0 e in absurd (omega arith)

planned_plainly : (p : Parsed) (plan : Checked (List Name × (Command × Option Returning))) (c : Compiled) (schema : Schema) → is_reading (Ok p) ≡ true → planned schema p ≡ plan
    → and_then plan (λ found. Ok (with_command p found)) ≡ Ok c → (c.returning ≡ None) × (c.formats ≡ [])
planned_plainly p (Err e) c schema reading is h = absurd cc
planned_plainly p (Ok plan) c schema reading is h =
    let parts = both (is_select p.statement) (length p.formats == 0) reading in
    let statement = chosen p.statement parts.0 in
    let plain = select_planned schema p statement.0 plan statement.1 is in
    let same : with_command p plan ≡ c = cc in
    (ap (λ (it : Compiled). it.returning) (sym same) ∙ plain.0, ap (λ (it : Compiled). it.formats) (sym same) ∙ plain.1 ∙ none_of p.formats parts.1)

read_plainly : (r : Checked Parsed) (c : Compiled) (schema : Schema) → is_reading r ≡ true → and_then r (λ p. and_then (planned schema p) (λ plan. Ok (with_command p plan))) ≡ Ok c
    → (c.returning ≡ None) × (c.formats ≡ [])
read_plainly (Err e) c schema reading h = cc
read_plainly (Ok p) c schema reading h = planned_plainly p (planned schema p) c schema reading refl h

compiled_plainly : (sql : List ℕ) (c : Compiled) (schema : Schema) → only_reads sql ≡ true → compiled schema sql ≡ Ok c → (c.returning ≡ None) × (c.formats ≡ [])
unfolding compiled only_reads
compiled_plainly sql c schema reading h = read_plainly (first sql) c schema reading h

if_selected_by : (b : Bool) (x c : Compiled) → ◌≡◌ {A = Checked Compiled} (cond b (Ok x) (Err NoSuchTable)) (Ok c) → ◌≡◌ {A = Checked Compiled} (Ok x) (Ok c)
if_selected_by true x c h = h
if_selected_by false x c h = absurd cc

if_selected : (r : Checked Compiled) (c : Compiled) → if_select r ≡ Ok c → r ≡ Ok c
if_selected (Err e) c h = absurd cc
if_selected (Ok x) c h = if_selected_by (listing.is_select x.command) x c h

-- a text that only reads is understood as a query that shows nothing that it writes
understood_plainly : (sql : List ℕ) (c : Compiled) (schema : Schema) → only_reads sql ≡ true → understood schema sql ≡ Ok c → (c.returning ≡ None) × (c.formats ≡ [])
unfolding understood
understood_plainly sql c schema reading h = elim (cases_Bool (reads_listing schema sql)) [
  | inl listed ↦ compiled_plainly sql c listing_schema reading (if_selected (compiled listing_schema sql) c (rw listed at h))
  | inr own ↦ compiled_plainly sql c schema reading (rw own at h)
]

pub shown_plainly : (sql : List ℕ) (params : Row) (old new : State) (rows : List Row) → only_reads sql ≡ true → Shown sql params old new rows → IsUnchanged old new × Answers sql params old.now rows
unfolding Shown
shown_plainly sql params old new rows reading h =
    let plain = understood_plainly sql h.0 old.now.schema reading h.1.is in
    let it = rw (plain.0, plain.1, append-nil params) at h.2 in
    (it.3, (h.0, h.1.is, it.0, it.1, it.2))

fails_shown : (sql : List ℕ) (c : Compiled) (params : Row) (old new : State) (e : Error) (what : Option Returning) → FailsToShow old new sql c params e what → IsUnchanged old new ⊎ IsRolledBack old new
fails_shown sql c params old new e None h = inl h.3
fails_shown sql c params old new e (Some what) (inl refused) = inl refused.1
fails_shown sql c params old new e (Some what) (inr failed) = inr failed.3

-- a query that is refused leaves what it found, and one that fails rolls back
fails_whole : (sql : List ℕ) (params : Row) (old new : State) (e : Error) → FailsToQuery sql params old new e ⊎ IsTooLate sql params old new e → IsUnchanged old new ⊎ IsRolledBack old new
unfolding FailsToQuery IsNotRun
fails_whole sql params old new e (inl (inl (inl refused))) = inl refused.1
fails_whole sql params old new e (inl (inl (inr failed))) = inr failed.3
fails_whole sql params old new e (inl (inr ran)) = fails_shown sql ran.0 _ old new e ran.0.returning ran.2
fails_whole sql params old new e (inr late) = inl late.5

module _ {S : Type 0} (g : Ghosts S) (old new : Held S) (survives : Survives (state g old) (state g new) (λ _. ⊥)) (sql : List ℕ) (params : Row) where
  by : (HasCleanDisk (state g new) → IsUnchanged (state g old) (state g new) ⊎ IsRolledBack (state g old) (state g new)) → CommitsNothing (state g old) (state g new)
  by whole = record {
    clean = survives.clean;
    kept = λ late. unchanged_keeps (state g old) (state g new) (whole late);
    crash = λ late db left. elim (survives.crash late db left) [ inl was ↦ was | inr none ↦ absurd none ];
  }

  pub refused : (e : Error) → (HasCleanDisk (state g new) → FailsToQuery sql params (state g old) (state g new) e ⊎ IsTooLate sql params (state g old) (state g new) e)
      → CommitsNothing (state g old) (state g new)
  refused e failed = by (λ late. fails_whole sql params (state g old) (state g new) e (failed late))

  pub queried : (rows : List Row) → only_reads sql ≡ true → (HasCleanDisk (state g new) → Shown sql params (state g old) (state g new) rows) → CommitsNothing (state g old) (state g new)
  queried rows reading shown = by (λ late. inl (shown_plainly sql params (state g old) (state g new) rows reading (shown late)).0)
