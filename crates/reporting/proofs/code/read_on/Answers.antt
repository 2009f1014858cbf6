use Rattle.std.proofs.Common.{take, arith}
use Rattle.rules.proofs.AnnouncedLaws.{announced-most}
use Rattle.reporting.proofs.code.read_on.Goals as goal

pub slice_bounds-read_full-end : goal.slice_bounds-read_full-end
slice_bounds-read_full-end g c = omega (arith, c.announced-end.ensures, announced-most (take c.args.size c.args.file.now))
