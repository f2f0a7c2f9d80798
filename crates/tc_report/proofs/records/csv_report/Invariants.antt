use Rattle.std.{proofs.Common.{◌≡◌, ◌++◌, take}, specs.List.flat_map}
use Rattle.tc_report.specs.{Csv.{columns_text, row_line}, Inside.{IsBetweenRecords, written_by}}
use Rattle.tc_report.proofs.records.csv_report.Given as goal

abbrev pub invariant-loop-case : goal.invariant-loop-case
invariant-loop-case l = record {
  between : IsBetweenRecords l.writer;
  written : written_by l.writer ≡ columns_text ++ flat_map row_line (take l.case-index l.cases);
}
