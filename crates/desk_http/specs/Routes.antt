-- What the target of a request names, by the routes of `matchit`.
use Rattle.std.specs.Prelude.{ℕ, ◌-◌, ◌==◌, List, [], length, take, drop, codes, Option, Some, None, option_map, option_and_then, Result, Ok, Err}
use Rattle.std.specs.List.{before_first}
use Rattle.matchit.specs.Rows.{RowsOf}
use Rattle.matchit.specs.Order.{placed}
use Rattle.matchit.specs.Route.{Scan, parse_route}
use Rattle.matchit.specs.Router.{RouteOf, route_from}
use Rattle.matchit.specs.Seek.{first}
use Rattle.matchit.specs.declared.error.InsertError.{InsertError}
use Rattle.minute_line.specs.declared.dates.Monday.{Monday}
use Rattle.desk_csv.specs.Fields.{monday_said}
use Rattle.desk_http.specs.declared.early.Verb.{Verb}
use Rattle.desk_http.specs.declared.early.Verb.TheVariants.{Get, Post}
use Rattle.desk_http.specs.declared.routes.Place.{Place}
use Rattle.desk_http.specs.declared.routes.Place.TheVariants as to
use Rattle.desk_http.specs.declared.routes.Target.{Target}
use Rattle.desk_http.specs.declared.routes.Target.TheVariants.{Plan, Check, Publish, Show, Export}

-- the rows of a router
abbrev pub Table : Type 0
Table = RowsOf (RouteOf Place)

-- the rows with one more route, as it was read
abbrev pub with_read : Result Scan InsertError → Place → Table → Table
with_read (Ok route) place table = placed (route.pattern, route_from route place) table
with_read (Err error) place table = table

-- the rows with one more route
abbrev pub with_route : List ℕ → Place → Table → Table
with_route route place table = with_read (parse_route route) place table

-- the five routes
abbrev pub routes : Table
routes =
    with_route (codes "/weeks/{monday}/export") to.Export (with_route (codes "/weeks/{monday}") to.Show
    (with_route (codes "/publish") to.Publish (with_route (codes "/check") to.Check (with_route (codes "/plan") to.Plan []))))

-- what the route of a path leads to
abbrev pub place_of : List ℕ → Option Place
place_of path = option_map (λ route. route.value) (first routes path)

-- the path of a target: what stands before its first question mark
abbrev pub path_of : List ℕ → List ℕ
path_of target = before_first (λ b. b == 63) target

-- what stands after /weeks/
abbrev pub after_weeks : List ℕ → List ℕ
after_weeks path = drop 7 path

-- what stands before /export
abbrev pub before_export : List ℕ → List ℕ
before_export path = take (length path - 7) path

-- what a path names, by what its route leads to
abbrev pub target_at : Place → List ℕ → Option Target
target_at to.Plan path = Some Plan
target_at to.Check path = Some Check
target_at to.Publish path = Some Publish
target_at to.Show path = option_map Show (monday_said (after_weeks path))
target_at to.Export path = option_map Export (monday_said (before_export (after_weeks path)))

-- what a path names
abbrev pub path_target : List ℕ → Option Target
path_target path = option_and_then (λ place. target_at place path) (place_of path)

-- what a target names
abbrev pub target_of : List ℕ → Option Target
target_of target = path_target (path_of target)

-- the method of what is named
abbrev pub verb_of : Target → Verb
verb_of Plan = Post
verb_of Check = Post
verb_of Publish = Post
verb_of (Show monday) = Get
verb_of (Export monday) = Get
