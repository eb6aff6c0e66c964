mod JoinedRuns
mod CarriedOut
