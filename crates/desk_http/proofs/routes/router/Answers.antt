use Rattle.std.proofs.Common.{◌∙◌, ap, codes}
use Rattle.desk_http.specs.declared.routes.Place.TheVariants.{Plan, Check, Publish, Show, Export}
use Rattle.desk_http.specs.Routes.{with_route}
use Rattle.desk_http.proofs.routes.router.Goals as goal

pub returns : goal.returns
returns c =
    c.in_ok-add-5.ensures ∙ ap (with_route (codes "/weeks/{monday}/export") Export) (
    c.in_ok-add-4.ensures ∙ ap (with_route (codes "/weeks/{monday}") Show) (
    c.in_ok-add-3.ensures ∙ ap (with_route (codes "/publish") Publish) (
    c.in_ok-add-2.ensures ∙ ap (with_route (codes "/check") Check) (
    c.in_ok-add.ensures ∙ ap (with_route (codes "/plan") Plan) c.new-router.ensures))))
