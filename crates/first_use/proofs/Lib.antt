mod TwoLogs
