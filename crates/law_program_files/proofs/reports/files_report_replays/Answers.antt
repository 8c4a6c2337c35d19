use Rattle.law_program_files.proofs.ReportLaws.{files_report_replays}
use Rattle.law_program_files.proofs.reports.files_report_replays.Goals as goal

pub returns : goal.returns
returns c = files_report_replays
