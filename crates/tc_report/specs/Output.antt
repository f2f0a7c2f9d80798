-- What a fault of an output says.
use Rattle.std.specs.{Prelude.{ℕ, List, Option}, Io.KnownBytes.Keeps}
use Rattle.tc_stream.specs.Prelude.{AppendsPrefix, write_text}
use Rattle.tc_rules.specs.Prelude.{memory_text}
use Rattle.tc_report.specs.declared.fault.OutFault.{OutFault}

-- without memory nothing was written, otherwise a prefix of the text
abbrev pub LeavesPrefix : Option (List ℕ) → Option (List ℕ) → List ℕ → OutFault → Type 0
LeavesPrefix before after text OutFault.NoMemory = Keeps before after
LeavesPrefix before after text OutFault.Write = AppendsPrefix before after text

-- why a text did not go out whole
abbrev pub out_text : OutFault → List ℕ
out_text OutFault.NoMemory = memory_text
out_text OutFault.Write = write_text
