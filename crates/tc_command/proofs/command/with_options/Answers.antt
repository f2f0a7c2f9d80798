use Rattle.std.proofs.Common.{◌∙◌, sym}
use Rattle.tc_command.proofs.Growing.{grown, grows_by_one, named_more}
use Rattle.tc_command.proofs.command.with_options.Goals as goal

pub loop-name-preserved : goal.loop-name-preserved
loop-name-preserved c =
    let grows = grows_by_one c.in_ok-command.ensures c.option_of.ensures.local c.option_of.ensures.rule in
    record {
      options = grown grows c.loop-name.invariant.options ∙ sym (named_more c.args.names.now c.loop-name.name-index _ _ c.loop-name-test.true);
      local = grows.local ∙ c.loop-name.invariant.local;
    }
