mod Refuses
