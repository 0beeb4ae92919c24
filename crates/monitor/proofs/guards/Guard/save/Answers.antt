use Rattle.monitor.proofs.Answers.{save_blank, save_back}
use Rattle.monitor.proofs.guards.Guard.save.Goals as goal

pub returns : goal.returns
returns g c =
    let t = c.args.self.now.tables in
    let m = g.S.Scheme.meaning c.args.self.now.scheme in
    let saves = c.save.ensures in
    record {
      saves = saves;
      blank = save_blank t c.save.result c.args.buf.now c.save.new.buf saves;
      back = save_back m t c.save.result c.args.buf.now c.save.new.buf saves;
    }
