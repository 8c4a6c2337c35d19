use Rattle.asp_top.proofs.StatusLemmas.{blocked, ended, reports, spent}
use Rattle.asp_top.proofs.CauseLemmas.{program_only, read_fault_only, replay_only, resume_only, trace_only, usage_only, write_fault_only}
use Rattle.asp_top.proofs.ExpectedLemmas.{completes, refuses_program, refuses_words}
use Rattle.asp_top.proofs.RefusedLemmas.{refuses_report}
use Rattle.asp_top.proofs.TracedLemmas.{refuses_trace}
use Rattle.asp_top.proofs.ResumedLemmas.{refuses_checkpoint}
use Rattle.asp_top.proofs.top.run_asp.Goals as goal

pub returns-clause-report : goal.returns-clause-report
returns-clause-report g c = reports c.run_words.ensures.ends

pub returns-clause-ended_only : goal.returns-clause-ended_only
returns-clause-ended_only g c = ended c.run_words.ensures.ends

pub returns-clause-blocked_only : goal.returns-clause-blocked_only
returns-clause-blocked_only g c = blocked c.run_words.ensures.ends

pub returns-clause-budget_only : goal.returns-clause-budget_only
returns-clause-budget_only g c = spent c.run_words.ensures.ends

pub returns-clause-usage_only : goal.returns-clause-usage_only
returns-clause-usage_only g c = usage_only c.run_words.ensures.ends

pub returns-clause-program_only : goal.returns-clause-program_only
returns-clause-program_only g c = program_only c.run_words.ensures.ends

pub returns-clause-read_fault_only : goal.returns-clause-read_fault_only
returns-clause-read_fault_only g c = read_fault_only c.run_words.ensures.ends

pub returns-clause-write_fault_only : goal.returns-clause-write_fault_only
returns-clause-write_fault_only g c = write_fault_only c.run_words.ensures.ends

pub returns-clause-replay_only : goal.returns-clause-replay_only
returns-clause-replay_only g c = replay_only c.run_words.ensures.ends

pub returns-clause-trace_only : goal.returns-clause-trace_only
returns-clause-trace_only g c = trace_only c.run_words.ensures.ends

pub returns-clause-resume_only : goal.returns-clause-resume_only
returns-clause-resume_only g c = resume_only c.run_words.ensures.ends

pub returns-clause-usage : goal.returns-clause-usage
returns-clause-usage g c = refuses_words c.run_words.ensures.ends

pub returns-clause-unfit : goal.returns-clause-unfit
returns-clause-unfit g c = refuses_program c.run_words.ensures.ends

pub returns-clause-no_replay : goal.returns-clause-no_replay
returns-clause-no_replay g c = refuses_report c.run_words.ensures.ends

pub returns-clause-no_trace : goal.returns-clause-no_trace
returns-clause-no_trace g c = refuses_trace c.run_words.ensures.ends

pub returns-clause-no_resume : goal.returns-clause-no_resume
returns-clause-no_resume g c = refuses_checkpoint c.run_words.ensures.ends

pub returns-clause-complete : goal.returns-clause-complete
returns-clause-complete g c = completes c.run_words.ensures.ends
