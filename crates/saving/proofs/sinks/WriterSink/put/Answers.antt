use Rattle.std.proofs.Common.{length, refl, ap, ◌∙◌, arith}
use Rattle.saving.proofs.Writing.{wrote_part, wrote_length, written_more}
use Rattle.saving.proofs.sinks.WriterSink.put.Goals as goal

pub returns-then-xs-self : goal.returns-then-xs-self
returns-then-xs-self c a ws h =
    let e = wrote_part c.args.self.now.bytes.now c.args.self.now.place c.args.xs.now c.copy_from_slice.new.self c.copy_from_slice.ensures.after in
    written_more a c.args.self.now _ ws c.args.xs.now h
    (record {
      held = refl;
      long = ap length e ∙ wrote_length c.args.self.now.bytes.now c.args.self.now.place c.args.xs.now (omega arith);
      bytes = λ _. e;
      place = λ _. refl;
    })
