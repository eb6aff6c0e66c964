-- The retirement that is reached keeps where it leads, which no search puts together in a short time.
use Rattle.std.proofs.Common.{refl, sym, ap, ◌∙◌, drop}
use Rattle.legalpath.specs.Successor.{leads_from}
use Rattle.rvclass.specs.Fetch.{words_of}
use Rattle.decoder.proofs.Retraces.{reaches_there}
use Rattle.decoder.specs.steps.Leads.{may_stay_on}
use Rattle.decoder.specs.declared.stepping.Here.{Here}
use Rattle.decoder.proofs.retracing.reach.Goals as goal

pub returns : goal.returns
returns c =
    let at = sym c.in-Some.ensures.word in
    let here : Here = record {
      addr = c.args.addr;
      itype = c.in-Ok.itype;
      privilege = c.args.here.now.privilege;
      next = c.leads-here.result;
      stays = c.may_stay-here.result;
    } in
    reaches_there (words_of c.args.program.now) c.args.course.now.outcomes here c.type_of.new.used c.args.addr
    c.args.here.now.privilege c.in-Ok.itype (c.in-Some.class, c.in-Some.length)
    (drop c.args.used.now c.args.course.now.outcomes) c.in-Some.ensures.word c.in-Ok.ensures.returned refl (
      ap (leads_from c.args.addr c.in-Ok.itype) at ∙ sym c.leads-here.ensures,
      ap (λ w. may_stay_on w c.args.here.now.privilege) at ∙ sym c.may_stay-here.ensures,
    )
