use Rattle.std.proofs.Common.{◌∷◌, ◌∙◌, sym, refl}
use Rattle.duty_label.proofs.Brought.{lawful-longer}
use Rattle.duty_label.proofs.children.child.Goals as goal

pub returns-in-Ok-clause-lawful : goal.returns-in-Ok-clause-lawful
returns-in-Ok-clause-lawful c = λ before h. (
  λ ok. (
    sym c.is_barred.ensures ∙ c.if-is_barred.false,
    lawful-longer c.args.case.now c.args.driver before (record { stay = c.args.stay; act = c.args.act }) h.lawful (c.in-Ok.ensures before
        h).0,
  ),
  λ l. refl,
)

pub returns-in-Ok-clause-some : goal.returns-in-Ok-clause-some
returns-in-Ok-clause-some c =
    let s = c.requires.label in
    let next = c.in-Ok.ensures s.partial s.has_label in record {
      partial = record { stay = c.args.stay; act = c.args.act } ∷ s.partial;
      has_label = record {
        lawful = lawful-longer c.args.case.now c.args.driver s.partial (record { stay = c.args.stay; act = c.args.act }) s.has_label.lawful
            next.0;
        label_of = next.1;
      };
    }
