use Rattle.std.{proofs.Common.◌≡◌, specs.Io.StartsWith}
use Rattle.tc_serve.proofs.Sleeping.{AreWoken}
use Rattle.tc_serve.proofs.open_case.OpenCase.wake_all.Given as goal

abbrev pub invariant-loop-run : goal.invariant-loop-run
invariant-loop-run l = record {
  so_far : AreWoken l.fn.self l.self l.run l.fn.out.items l.out.items;
  same : l.self.waited ≡ l.fn.self.waited;
  any : StartsWith l.out.items l.fn.out.items;
}
