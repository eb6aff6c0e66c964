-- What the contracts of the funnel, of replays, of runs and of comparisons cite.
pub use Rattle.funnel.specs.Order
pub use Rattle.funnel.specs.Limits
pub use Rattle.funnel.specs.Held
pub use Rattle.funnel.specs.Machine
pub use Rattle.funnel.specs.Lawful
pub use Rattle.funnel.specs.Payloads
pub use Rattle.funnel.specs.Rule
pub use Rattle.funnel.specs.Live
pub use Rattle.funnel.specs.Ends
pub use Rattle.funnel.specs.Refusals
pub use Rattle.funnel.specs.Schedule
pub use Rattle.funnel.specs.FaultText as ScheduleFaultText
pub use Rattle.bench.specs.Verdict
pub use Rattle.bench.specs.Got
pub use Rattle.bench.specs.Report
pub use Rattle.bench.specs.Replayed
pub use Rattle.bench.specs.Collected
pub use Rattle.bench.specs.TakesMessage
pub use Rattle.bench.specs.Beginnings
pub use Rattle.bench.specs.Setting
pub use Rattle.bench.specs.Working
pub use Rattle.bench.specs.Stopping
pub use Rattle.bench.specs.SetupText
pub use Rattle.comparing.specs.Counts as ComparedCounts
pub use Rattle.comparing.specs.RowsAbout
pub use Rattle.comparing.specs.Agreeing as AgreeingRows
pub use Rattle.comparing.specs.Explained as ExplainedRows
pub use Rattle.comparing.specs.SourceTexts as RowSourceTexts
pub use Rattle.comparing.specs.Sourced as SourcedRows
pub use Rattle.comparing.specs.Sources as RowSources
pub use Rattle.comparing.specs.Compared
pub use Rattle.comparing.specs.Lines as ComparedLines
pub use Rattle.comparing.specs.Verdicts as ComparedVerdicts
pub use Rattle.comparing.specs.Whole as ComparedWhole
